-- The position is supported, as all others that are settled.
use Rattle.std.proofs.Common.{sym, subst}
use Rattle.propagators.specs.Known.{KnownCycle, known, IsSupportedAt}
use Rattle.propagators.proofs.Awaiting.{settled_more}
use Rattle.propagators.proofs.two_turns.Cycle.settle.Goals as goal

pub invariant_of-self : goal.invariant_of-self
invariant_of-self c =
    let i = c.self.inside in
    let S : KnownCycle → Type 0 = λ C. IsSupportedAt C c.args.p in
    (c.self.invariant.0, settled_more (known i.automaton.now i.sets) i.pending.items c.args.p c.self.invariant.1 (subst S (sym c.self.view_is) c.requires.supported))

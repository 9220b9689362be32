-- A position whose flag is down is settled.
use Rattle.std.proofs.Common.{◌≡◌, ◌<◌, ◌∙◌, length, get_or, false, sym, subst, arith}
use Rattle.std.proofs.lemmas.List.{get_or_default}
use Rattle.rwsp_terms.specs.Instance.{cells}
use Rattle.propagators.specs.Known.{KnownCycle, IsSupportedAt}
use Rattle.propagators.proofs.two_turns.Cycle.is_pending.Goals as goal

pub returns : goal.returns
returns c calm =
    let flags = c.self.inside.pending.items in
    let S : KnownCycle → Type 0 = λ C. IsSupportedAt C c.args.p in
    let within : c.args.p < cells c.self.inside.automaton.now.problem = subst (λ (C : KnownCycle). c.args.p < cells C.problem) (sym c.self.view_is) c.requires in
    let less : c.args.p < length c.self.inside.pending.items = omega (arith, within, c.self.invariant.1.long) in
    let down : get_or c.self.inside.pending.items c.args.p false ≡ false = sym (c.index.ensures ∙ get_or_default flags c.args.p c.index.result.now false less) ∙ calm in
    subst S c.self.view_is (c.self.invariant.1.settled c.args.p within down)

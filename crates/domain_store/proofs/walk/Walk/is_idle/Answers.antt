-- The store has the domains of the next line.
use Rattle.std.proofs.Common.{◌<◌, length, sym, subst, ◌∙◌}
use Rattle.domain_store.specs.States.{IsStateOf, State}
use Rattle.domain_store.proofs.Moves.{state_idle}
use Rattle.domain_store.proofs.walk.Walk.is_idle.Goals as goal

pub returns-clause-idle : goal.returns-clause-idle
returns-clause-idle c P start lines w =
    let within : State → Type 0 = λ v. c.args.p < length v.store.sets in
    c.is_idle_there.ensures
    ∙ state_idle P start lines c.self.inside.domains c.self.inside.splits.items c.self.inside.whole c.prove_facts.ensures.now c.prove_facts.ensures.tests (subst (IsStateOf P start lines) (sym c.self.view_is) w)
    c.args.p c.args.x.number (subst within (sym c.self.view_is) c.requires)

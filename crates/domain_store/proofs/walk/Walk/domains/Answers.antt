-- The domains that the lines leave.
use Rattle.std.proofs.Common.{sym, subst}
use Rattle.domain_store.specs.States.{IsStateOf}
use Rattle.domain_store.proofs.Moves.{state_domains}
use Rattle.domain_store.proofs.walk.Walk.domains.Goals as goal

pub returns-clause-has : goal.returns-clause-has
returns-clause-has c P start lines w p x lt =
    state_domains P start lines c.self.inside.domains c.self.inside.splits.items c.self.inside.whole c.prove_facts.ensures.now (subst (IsStateOf P start lines) (sym c.self.view_is) w) p x lt

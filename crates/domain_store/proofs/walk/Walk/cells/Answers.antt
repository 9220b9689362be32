-- The store has the instance's positions.
use Rattle.std.proofs.Common.{◌∙◌, sym, subst}
use Rattle.domain_store.specs.States.{IsStateOf}
use Rattle.domain_store.proofs.Idle.{positions_of}
use Rattle.domain_store.proofs.walk.Walk.cells.Goals as goal

pub returns-clause-value : goal.returns-clause-value
returns-clause-value c P start lines w =
    c.cells.ensures.positions ∙ positions_of P c.self.inside.domains c.prove_facts.ensures.now (subst (IsStateOf P start lines) (sym c.self.view_is) w).belongs

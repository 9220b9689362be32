-- The trees that the open splits lack, and one.
use Rattle.std.proofs.Common.{◌+◌, ◌∙◌, ap, sym, subst}
use Rattle.refutation_terms.specs.Tree.{after_trees}
use Rattle.domain_store.specs.Splits.{second_sides_to_come}
use Rattle.domain_store.specs.States.{IsStateOf}
use Rattle.domain_store.proofs.Moves.{state_ended, state_open}
use Rattle.domain_store.proofs.walk.Walk.open_count.Goals as goal

pub returns-then-self-clause-trees : goal.returns-then-self-clause-trees
returns-then-self-clause-trees c rest P start lines w =
    state_ended P start lines rest c.self.inside.domains c.self.inside.splits.items c.self.inside.whole c.if-self.true (subst (IsStateOf P start lines) (sym c.self.view_is) w)

pub returns-else-self-clause-trees : goal.returns-else-self-clause-trees
returns-else-self-clause-trees c rest P start lines w =
    state_open P start lines rest c.self.inside.domains c.self.inside.splits.items c.self.inside.whole c.if-self.false (subst (IsStateOf P start lines) (sym c.self.view_is) w)
    ∙ ap (λ n. after_trees (n + 1) rest) (sym (c.second_sides_to_come.ensures.value ∙ ap second_sides_to_come c.deref.ensures.value))

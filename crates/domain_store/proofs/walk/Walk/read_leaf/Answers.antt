-- A leaf is a tree, and its end leaves a walk.
use Rattle.std.proofs.Common.{◌≡◌, ◌+◌, [], ◌∷◌, false, sym, subst}
use Rattle.domain_store.specs.States.{IsStateOf, State, open_trees}
use Rattle.domain_store.proofs.Moves.{leaf_can_end, leaf_is_tree, still_walk, behind_tree, open_behind_leaf}
use Rattle.domain_store.proofs.walk.Walk.read_leaf.Goals as goal

pub end_tree-self-inside-requires : goal.end_tree-self-inside-requires
end_tree-self-inside-requires c =
    let part : State → Type 0 = λ v. v.whole ≡ false in
    leaf_can_end c.self.inside.domains c.self.inside.splits.items c.self.inside.whole (subst part (sym c.self.view_is) c.requires) c.self.invariant

pub invariant_of-self : goal.invariant_of-self
invariant_of-self c =
    let part : State → Type 0 = λ v. v.whole ≡ false in
    still_walk c.self.inside.domains c.end_tree-self-inside.new.domains c.self.inside.splits.items c.end_tree-self-inside.new.splits.items c.self.inside.whole c.end_tree-self-inside.result
    (subst part (sym c.self.view_is) c.requires) c.end_tree-self-inside.ensures.same c.end_tree-self-inside.ensures.ended c.self.invariant

pub returns-clause-ends : goal.returns-clause-ends
returns-clause-ends c leaf is_leaf P start lines w =
    let part : State → Type 0 = λ v. v.whole ≡ false in
    behind_tree P start lines (leaf ∷ []) c.self.inside.domains c.end_tree-self-inside.new.domains c.self.inside.splits.items c.end_tree-self-inside.new.splits.items c.self.inside.whole c.end_tree-self-inside.result (leaf_is_tree leaf is_leaf)
    (subst part (sym c.self.view_is) c.requires) c.end_tree-self-inside.ensures.same c.end_tree-self-inside.ensures.ended (subst (IsStateOf P start lines) (sym c.self.view_is) w)

pub returns-clause-trees : goal.returns-clause-trees
returns-clause-trees c tree is_tree P start lines w =
    let part : State → Type 0 = λ v. v.whole ≡ false in
    behind_tree P start lines tree c.self.inside.domains c.end_tree-self-inside.new.domains c.self.inside.splits.items c.end_tree-self-inside.new.splits.items c.self.inside.whole c.end_tree-self-inside.result is_tree
    (subst part (sym c.self.view_is) c.requires) c.end_tree-self-inside.ensures.same c.end_tree-self-inside.ensures.ended (subst (IsStateOf P start lines) (sym c.self.view_is) w)

pub returns-clause-one_less : goal.returns-clause-one_less
returns-clause-one_less c =
    let part : State → Type 0 = λ v. v.whole ≡ false in
    let split : State → Type 0 = λ v. open_trees v ≡ open_trees (record { store = c.end_tree-self-inside.new.domains; splits = c.end_tree-self-inside.new.splits.items; whole = c.end_tree-self-inside.result }) + 1 in
    subst split c.self.view_is (open_behind_leaf c.self.inside.whole c.end_tree-self-inside.result c.self.inside.splits.items c.end_tree-self-inside.new.splits.items (subst part (sym c.self.view_is) c.requires) c.end_tree-self-inside.ensures.counted)

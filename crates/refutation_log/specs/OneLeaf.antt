-- When one leaf is a whole refutation.
use Rattle.std.specs.Prelude.{ℕ, Option}
use Rattle.rwsp_terms.specs.Instance.{Instance}
use Rattle.refutation_terms.specs.declared.lines.Leaf.{Leaf}
use Rattle.refutation_terms.specs.declared.lines.Opening.{Opening}
use Rattle.refutation_terms.specs.Leaves.{LeafHolds, LeafListsShort}
use Rattle.refutation_terms.specs.Tree.{opening}
use Rattle.refutation_terms.specs.Log.{GoalFits, IsAllowed}

-- the leaf closes all cases of a log with this opening, which is allowed, and this goal or none, which fits: it lists
-- short rules only and holds under the domains at the first line
pub record ClosesAll (P : Instance) (o : Opening) (goal : Option ℕ) (leaf : Leaf) : Type 0 where
  pub goal_fits : GoalFits P o goal
  pub allowed : IsAllowed P o
  pub short : LeafListsShort P leaf
  pub holds : LeafHolds P goal (opening P o) leaf

-- A goal of a log without a turn is one of its problem.
use Rattle.std.proofs.Common.{ℕ, Option, Some, None}
use Rattle.rwsp_terms.specs.Instance.{Instance}
use Rattle.refutation_terms.specs.declared.lines.Opening.TheVariants.{Full}
use Rattle.refutation_terms.specs.Log.{GoalFits}
use Rattle.clean_words.specs.Claims.{IsGoalOf}

pub goal_of_problem : (P : Instance) (goal : Option ℕ) → GoalFits P Full goal → IsGoalOf P goal
goal_of_problem P None h = tt
goal_of_problem P (Some goal) h = h.2

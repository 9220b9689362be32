-- What the guide of a planner was made for.
use Rattle.std.specs.Prelude.{◌≡◌, ℕ, Option}
use Rattle.rwsp_terms.specs.Instance.{Instance}
use Rattle.refutation_terms.specs.declared.lines.Opening.TheVariants.{Full}
use Rattle.refutation_terms.specs.Log.{GoalFits}
use Rattle.domain_store.specs.Cycles.{AreShortRules}
use Rattle.roster_planner.specs.declared.guide.PlannerGuide.{PlannerGuide}
use Rattle.roster_planner.specs.OneShift.{HasDaysOf}

-- it is for this problem, and for logs with this goal or without one
abbrev pub IsGuideFor : PlannerGuide → Instance → Option ℕ → Type 0
IsGuideFor g P goal =
    (g.automaton.now.problem ≡ P) × (g.finder.now ≡ P) × (g.weights.problem ≡ P)
    × HasDaysOf g.off_weights.one.now.problem P × (g.off_weights.weights.problem ≡ g.off_weights.one.now.problem)
    × AreShortRules g.automaton.now.problem g.automaton.now.rules
    × (goal ≡ g.goal) × GoalFits P Full goal

-- What any two answers to the ways out of a problem have in common.
use Rattle.std.specs.Prelude.{◌≡◌, true}
use Rattle.std.specs.List.{list_all}
use Rattle.rwsp_terms.specs.Instance.{Instance}
use Rattle.roster_planner.specs.declared.effort.Effort.{Effort}
use Rattle.ways_out.specs.declared.answer.WaysOut.{WaysOut}
use Rattle.ways_out.specs.declared.answer.WaysOut.TheVariants.{NoNeed, Changes}
use Rattle.ways_out.specs.Answers.{AreWaysOut, is_decided}

-- two answers that may both fit: not a roster beside a refutation; and where neither left anything open they know the
-- same of each change
abbrev pub WaysAgree : WaysOut → WaysOut → Type 0
WaysAgree (NoNeed s) (Changes a) = ⊥
WaysAgree (Changes a) (NoNeed s) = ⊥
WaysAgree (Changes a) (Changes b) =
    list_all is_decided a.items ≡ true → list_all is_decided b.items ≡ true → a.items ≡ b.items
WaysAgree a b = Unit {0}

abbrev pub AllWaysAgree : Type 0
AllWaysAgree =
    (P : Instance) (effort other : Effort) (a b : WaysOut) → AreWaysOut P effort a → AreWaysOut P other b
    → WaysAgree a b

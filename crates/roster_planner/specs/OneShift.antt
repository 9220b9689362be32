-- A problem with all its shifts made one.
use Rattle.std.specs.Prelude.{◌≡◌, ◌*◌, ◌<◌, ℕ, Option}
use Rattle.rwsp_terms.specs.Instance.{Instance, cells}
use Rattle.refutation_terms.specs.declared.lines.Line.{Line}
use Rattle.refutation_terms.specs.declared.lines.Line.TheVariants.{Closing}
use Rattle.refutation_terms.specs.declared.lines.Leaf.TheVariants.{Words}
use Rattle.refutation_terms.specs.declared.lines.WordClaim.TheVariants.{Light}
use Rattle.refutation_terms.specs.Ranges.{IsLength}
use Rattle.refutation_terms.specs.WordsLeaf.{RewardFits}

-- as many weeks of as many days
abbrev pub HasDaysOf : Instance → Instance → Type 0
HasDaysOf M P = (M.days ≡ P.days) × (M.weeks ≡ P.weeks)

-- if the line is a claim of weight, its words lie in the problem's cells
abbrev pub IsClaimIn : Instance → Option ℕ → Line → Type 0
IsClaimIn P goal (Closing (Words p R (Light turns reward y))) =
    (p < cells P) × IsLength (turns * cells P) × RewardFits goal p reward
IsClaimIn P goal line = Unit {0}

-- Days on which no symbol is taken away.
use Rattle.std.specs.Prelude.{ℕ, ◌≤◌}
use Rattle.rwsp_terms.specs.Instance.{Instance, shift_count, IsDay}
use Rattle.refutation_terms.specs.Word.{Domains}
use Rattle.propagators.specs.Days.{TakesNone}

-- by no symbol that is counted on the day
abbrev pub TakesNoneOn : Instance → Domains → ℕ → Type 0
TakesNoneOn P D j = (z : ℕ) → z ≤ shift_count P → TakesNone P D j z

-- nor on any other day
abbrev pub TakesNoneAtAll : Instance → Domains → Type 0
TakesNoneAtAll P D = (j z : ℕ) → IsDay P j → z ≤ shift_count P → TakesNone P D j z

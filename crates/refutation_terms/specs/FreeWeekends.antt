-- Free weekends of a word, and what a word weighs with a reward for each.
use Rattle.std.specs.Prelude.{ℕ, ◌+◌, ◌*◌, ◌%◌, ◌==◌, ◌&&◌, List, length, Bool, nat_lt, ℤ, pos, ◌+ℤ◌, slice_index_or, count_by}
use Rattle.std.specs.List.{range_with_len}
use Rattle.rwsp_terms.specs.declared.limits.TheConstants.{DAYS_OF_WEEK, SATURDAY}
use Rattle.rwsp_terms.specs.declared.data.Symbol.{Symbol}
use Rattle.rwsp_terms.specs.declared.data.Weight.{Weight}
use Rattle.rwsp_terms.specs.Instance.{Instance, off_symbol}
use Rattle.refutation_terms.specs.Word.{weight}

-- the word has the day off at the place
abbrev pub is_off_at : List Symbol → ℕ → Bool
is_off_at u k = (slice_index_or u k off_symbol).number == 0

-- day k, counted from 0, is the Saturday of a week of seven days, the word has the day behind it too, and both are off
abbrev pub is_free_weekend : List Symbol → ℕ → Bool
is_free_weekend u k = (k % DAYS_OF_WEEK == SATURDAY) && nat_lt (k + 1) (length u) && is_off_at u k && is_off_at u (k + 1)

-- how many weeks of a word that begins on day 1 have both days of the weekend off
abbrev pub free_weekends : List Symbol → ℕ
free_weekends u = count_by (is_free_weekend u) (range_with_len 0 (length u))

-- what the word weighs from position p on, with the reward for each of its free weekends
abbrev pub free_weight : Instance → List Weight → ℕ → ℕ → List Symbol → ℤ
free_weight P y reward p u = weight P y p u +ℤ pos (reward * free_weekends u)

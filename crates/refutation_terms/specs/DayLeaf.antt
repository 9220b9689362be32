-- A leaf of one day: too many cells certainly hold a symbol, or too few can.
use Rattle.std.specs.Prelude.{◌≡◌, ℕ, ◌-◌, ◌+◌, ◌*◌, Bool, true, false, ◌&&◌, ◌||◌, ◌==◌, not, count_by, pos, ◌<ℤ◌}
use Rattle.std.specs.List.{range_with_len, list_all}
use Rattle.rwsp_terms.specs.declared.data.Symbol.{Symbol}
use Rattle.rwsp_terms.specs.declared.data.Rule.{Rule}
use Rattle.rwsp_terms.specs.declared.data.Rule.TheVariants as TheRules
use Rattle.rwsp_terms.specs.Instance.{Instance, shift_count, least, greatest, IsDay, IsSymbol}
use Rattle.refutation_terms.specs.Word.{Domains}

-- its day and its symbol are the problem's
abbrev pub DayFits : Instance → ℕ → Symbol → Type 0
DayFits P j x = IsDay P j × IsSymbol P x

-- it rests on the rule of its day
abbrev pub DayCites : ℕ → Rule → Type 0
DayCites j r = r ≡ TheRules.Day j

-- the symbol is in the domain of the position, and no other is
abbrev pub is_only : Instance → Domains → ℕ → ℕ → Bool
is_only P D p x = D p x && list_all (λ z. (z == x) || not (D p z)) (range_with_len 0 (shift_count P + 1))

-- how many positions of a day's column certainly hold the symbol: it is alone there
abbrev pub fixed : Instance → Domains → ℕ → ℕ → ℕ
fixed P D j x = count_by (λ i. is_only P D (i * P.days + (j - 1)) x) (range_with_len 0 P.weeks)

-- how many positions of a day's column can hold the symbol
abbrev pub possible : Instance → Domains → ℕ → ℕ → ℕ
possible P D j x = count_by (λ i. D (i * P.days + (j - 1)) x) (range_with_len 0 P.weeks)

-- more positions of the day certainly hold the symbol than it may have
abbrev pub HasTooMany : Instance → Domains → ℕ → ℕ → Type 0
HasTooMany P D j x = greatest P x j <ℤ pos (fixed P D j x)

-- fewer positions of the day can hold the symbol than it needs
abbrev pub HasTooFew : Instance → Domains → ℕ → ℕ → Type 0
HasTooFew P D j x = pos (possible P D j x) <ℤ least P x j

-- the day has the symbol too often (over), or too rarely
abbrev pub DayHolds : Instance → Domains → ℕ → Symbol → Bool → Type 0
DayHolds P D j x true = HasTooMany P D j x.number
DayHolds P D j x false = HasTooFew P D j x.number

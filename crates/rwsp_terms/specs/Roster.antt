-- When a roster meets the rules.
use Rattle.std.specs.Prelude.{◌≡◌, ℕ, ◌+◌, ◌-◌, ◌*◌, ◌<◌, ◌≤◌, List, length, slice_index_or, All, count_by, ◌==◌, pos, ◌≤ℤ◌}
use Rattle.std.specs.List.{range_with_len}
use Rattle.rwsp_terms.specs.Instance.{Instance, cells, shift_count, least, greatest, IsSymbol, IsClass, IsDay, off_symbol}
use Rattle.rwsp_terms.specs.Window.{Bad, window}
use Rattle.rwsp_terms.specs.declared.data.Symbol.{Symbol}
use Rattle.rwsp_terms.specs.declared.data.Rule.{Rule}
use Rattle.rwsp_terms.specs.declared.data.Rule.TheVariants.{Most, Least, Never, Day}

-- how many weeks hold the symbol on the day
abbrev pub weeks_with : Instance → List Symbol → ℕ → ℕ → ℕ
weeks_with P s x j =
    count_by (λ i. (slice_index_or s (i * P.days + (j - 1)) off_symbol).number == x) (range_with_len 0 P.weeks)

-- the day has at least the least and at most the greatest number of each symbol, of the day off too
abbrev pub MeetsDay : Instance → ℕ → List Symbol → Type 0
MeetsDay P j s =
    (x : ℕ) → x ≤ shift_count P
    → (least P x j ≤ℤ pos (weeks_with P s x j)) × (pos (weeks_with P s x j) ≤ℤ greatest P x j)

-- no window is of the kind, which may ask for the position where it begins
abbrev pub HasNoWindow : (ℕ → List Symbol → Type 0) → List Symbol → Type 0
HasNoWindow IsKind s = (p len : ℕ) → p < length s → IsKind p (window s p len) → ⊥

abbrev pub MeetsRule : Instance → Rule → List Symbol → Type 0
MeetsRule P (Day j) s = MeetsDay P j s
MeetsRule P r s = HasNoWindow (Bad P r) s

-- the rules of an instance
abbrev pub IsRule : Instance → Rule → Type 0
IsRule P (Most c) = IsClass P c
IsRule P (Least c) = IsClass P c
IsRule P (Never k) = k < length P.sequences
IsRule P (Day j) = IsDay P j

-- a cell for each day of each week, and in each a symbol
pub record IsRoster (P : Instance) (s : List Symbol) : Type 0 where
  pub long : length s ≡ cells P
  pub symbols : All (IsSymbol P) s

-- a roster that meets each rule
pub record MeetsAll (P : Instance) (s : List Symbol) : Type 0 where
  pub is_roster : IsRoster P s
  pub rules : (r : Rule) → IsRule P r → MeetsRule P r s

-- The least rest between a shift of a roster and the next.
use Rattle.std.specs.Prelude.{◌≡◌, ℕ, ◌+◌, ◌-◌, ◌<◌, ◌≤◌, List, length, Option, Some, None, nat_le, if◌then◌else◌}
use Rattle.rwsp_terms.specs.Instance.{Instance}
use Rattle.rwsp_terms.specs.Window.{cell}
use Rattle.rwsp_terms.specs.declared.data.Symbol.{Symbol}
use Rattle.made_problems.specs.Times.{start_later, end_of}

-- at position p is a shift, and the next one is n days later, round the cycle
pub record IsNext (s : List Symbol) (p n : ℕ) : Type 0 where
  pub some : 0 < n
  pub here : 0 < (cell s p).number
  pub there : 0 < (cell s (p + n)).number
  pub between : (k : ℕ) → 0 < k → k < n → (cell s (p + k)).number ≡ 0

-- the minutes from the end of the shift at position p to the start of the one n days later; 0 where it starts earlier
abbrev pub rest_after : Instance → List Symbol → ℕ → ℕ → ℕ
rest_after P s p n = start_later P n (cell s (p + n)) - end_of P (cell s p)

-- behind no shift below the bound is less rest, and behind one there is as much
pub record IsLeast (P : Instance) (s : List Symbol) (bound least : ℕ) : Type 0 where
  pub none_less : (p n : ℕ) → p < bound → IsNext s p n → least ≤ rest_after P s p n
  pub place : ℕ
  pub days : ℕ
  pub within : place < bound
  pub next : IsNext s place days
  pub reached : least ≡ rest_after P s place days

-- the least rest behind the shifts below the bound, or none where there is no shift
abbrev pub IsLeastBelow : Instance → List Symbol → ℕ → Option ℕ → Type 0
IsLeastBelow P s bound None = (p : ℕ) → p < bound → (cell s p).number ≡ 0
IsLeastBelow P s bound (Some least) = IsLeast P s bound least

-- the least rest behind the shifts of a roster
abbrev pub IsLeastRest : Instance → List Symbol → Option ℕ → Type 0
IsLeastRest P s least = IsLeastBelow P s (length s) least

-- the lesser of what is least so far, where there is anything, and one more
abbrev pub lesser : Option ℕ → ℕ → Option ℕ
lesser None minutes = Some minutes
lesser (Some other) minutes = if nat_le other minutes then Some other else Some minutes

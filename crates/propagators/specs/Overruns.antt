-- The first day and symbol whose demand can't be met.
use Rattle.std.specs.Prelude.{ℕ, ◌<◌, ◌≤◌, Bool, true, false, Option, Some, None}
use Rattle.rwsp_terms.specs.declared.data.Symbol.{Symbol}
use Rattle.rwsp_terms.specs.Instance.{Instance, shift_count, IsDay}
use Rattle.refutation_terms.specs.Word.{Domains}
use Rattle.refutation_terms.specs.DayLeaf.{HasTooMany, HasTooFew}

-- the symbol isn't certain to be on the day too often, and can be there often enough
pub record IsWithinDemand (P : Instance) (D : Domains) (j x : ℕ) : Type 0 where
  pub not_over : HasTooMany P D j x → ⊥
  pub not_short : HasTooFew P D j x → ⊥

-- how the symbol misses its demand. Over (true): too many certainly hold it. Short (false): too few can hold it, and
-- it isn't over
abbrev pub Misses : Instance → Domains → ℕ → ℕ → Bool → Type 0
Misses P D j x true = HasTooMany P D j x
Misses P D j x false = HasTooFew P D j x × (HasTooMany P D j x → ⊥)

-- the first of a day by symbol, and then over before short
pub record IsFirstOfDay (P : Instance) (D : Domains) (j x : ℕ) (over : Bool) : Type 0 where
  pub symbol : x ≤ shift_count P
  pub holds : Misses P D j x over
  pub before : (y : ℕ) → y < x → IsWithinDemand P D j y

-- the first by day
pub record IsFirstOverrun (P : Instance) (D : Domains) (j x : ℕ) (over : Bool) : Type 0 where
  pub day : IsDay P j
  pub first : IsFirstOfDay P D j x over
  pub before : (i y : ℕ) → IsDay P i → i < j → y ≤ shift_count P → IsWithinDemand P D i y

-- the symbol's own overrun, or none
abbrev pub IsSymbolAnswer : Instance → Domains → ℕ → ℕ → Option Bool → Type 0
IsSymbolAnswer P D j x None = IsWithinDemand P D j x
IsSymbolAnswer P D j x (Some over) = Misses P D j x over

-- the first of the day, or none
abbrev pub IsDayAnswer : Instance → Domains → ℕ → Option (Symbol × Bool) → Type 0
IsDayAnswer P D j None = (y : ℕ) → y ≤ shift_count P → IsWithinDemand P D j y
IsDayAnswer P D j (Some r) = IsFirstOfDay P D j r.0.number r.1

-- the first of all, or none
abbrev pub IsOverrunAnswer : Instance → Domains → Option (ℕ × Symbol × Bool) → Type 0
IsOverrunAnswer P D None = (i y : ℕ) → IsDay P i → y ≤ shift_count P → IsWithinDemand P D i y
IsOverrunAnswer P D (Some r) = IsFirstOverrun P D r.0 r.1.number r.2

-- The leaves of days, and the symbols that they take away.
use Rattle.std.specs.Prelude.{◌≡◌, ◌≢◌, ℕ, ◌+◌, ◌-◌, ◌*◌, ◌<◌, ◌≤◌, Bool, true, false, Option, Some, None, pos, ◌≤ℤ◌}
use Rattle.rwsp_terms.specs.declared.data.Symbol.{Symbol}
use Rattle.rwsp_terms.specs.Instance.{Instance, cells, shift_count, least, greatest}
use Rattle.refutation_terms.specs.declared.lines.Line.{Line}
use Rattle.refutation_terms.specs.declared.lines.Line.TheVariants.{Split, Closing}
use Rattle.refutation_terms.specs.declared.lines.Leaf.TheVariants.{Day}
use Rattle.refutation_terms.specs.Word.{Domains}
use Rattle.refutation_terms.specs.DayLeaf.{fixed, possible}
use Rattle.refutation_terms.specs.Tree.{First, narrowed, is_idle}
use Rattle.refutation_terms.specs.Log.{LineFits, Holds}
use Rattle.refutation_terms.specs.Sharp.{SomeDayHolds}
use Rattle.domain_store.specs.Store.{Store, BelongsTo}
use Rattle.propagators.specs.Counted.{Counted, StandsFor}

-- a day leaf of the problem
abbrev pub IsDayLeaf : Instance → Line → Type 0
IsDayLeaf P (Closing (Day j x over)) = LineFits P None false (Closing (Day j x over))
IsDayLeaf P line = ⊥

-- the symbol is beside another in the domain of the position, and a day leaf holds once it is alone there
pub record IsDaySpent (P : Instance) (D : Domains) (p : ℕ) (x : Symbol) : Type 0 where
  pub position : p < cells P
  pub useful : is_idle P D p x.number ≡ false
  pub closes : SomeDayHolds P (narrowed D (Split p x) First)

-- what a propagator of days is made of
pub record DayWatch : Type 0 where
  pub problem : Instance
  pub counts : Counted

-- the domains are the problem's, and the counts are theirs
pub record AreCountsOf (P : Instance) (S : Store) (C : Counted) : Type 0 where
  pub belongs : BelongsTo P S
  pub stands : StandsFor C S

-- if one week more certainly held the symbol, it would be there too often (over), and if one fewer could, too rarely
abbrev pub Saturates : Instance → Domains → ℕ → ℕ → Bool → Type 0
Saturates P D j x true = greatest P x j ≤ℤ pos (fixed P D j x)
Saturates P D j x false = pos (possible P D j x) ≤ℤ least P x j

-- the position of the day in a week
abbrev pub position_in_week : Instance → ℕ → ℕ → ℕ
position_in_week P i j = i * P.days + (j - 1)

-- where the symbol saturates its day, it is beside no other on the day
abbrev pub TakesNone : Instance → Domains → ℕ → ℕ → Type 0
TakesNone P D j x = (i : ℕ) (over : Bool) → i < P.weeks → is_idle P D (position_in_week P i j) x ≡ false
    → Saturates P D j x over → ⊥

-- whether the symbol saturates its day while it is beside another there
abbrev pub IsSaturation : Instance → Domains → ℕ → ℕ → Option Bool → Type 0
IsSaturation P D j x None = TakesNone P D j x
IsSaturation P D j x (Some over) = Saturates P D j x over

-- another symbol in the domain of the position
pub record IsBeside (P : Instance) (D : Domains) (p x : ℕ) (z : Symbol) : Type 0 where
  pub symbol : z.number ≤ shift_count P
  pub other : z.number ≢ x
  pub held : D p z.number ≡ true
  pub useful : is_idle P D p x ≡ false

-- the symbol isn't in the domain or is alone there, or another is beside it
abbrev pub IsNeighbour : Instance → Domains → ℕ → ℕ → Option Symbol → Type 0
IsNeighbour P D p x None = is_idle P D p x ≡ true
IsNeighbour P D p x (Some z) = IsBeside P D p x z

-- a week in which the symbol is beside another on the day, or none
pub record IsPlaceBeside (P : Instance) (D : Domains) (j x p : ℕ) (z : Symbol) : Type 0 where
  pub week : ℕ
  pub within : week < P.weeks
  pub position : p ≡ position_in_week P week j
  pub beside : IsBeside P D p x z

abbrev pub IsPlaceAnswer : Instance → Domains → ℕ → ℕ → Option (ℕ × Symbol) → Type 0
IsPlaceAnswer P D j x None = (i : ℕ) → i < P.weeks → is_idle P D (position_in_week P i j) x ≡ true
IsPlaceAnswer P D j x (Some r) = IsPlaceBeside P D j x r.0 r.1

-- a symbol that the leaf takes away
pub record IsDayCut (P : Instance) (D : Domains) (p : ℕ) (x : Symbol) (j : ℕ) (counted : Symbol)
    (over : Bool) : Type 0 where
  pub position : p < cells P
  pub useful : is_idle P D p x.number ≡ false
  pub fits : LineFits P None false (Closing (Day j counted over))
  pub holds : Holds P None (narrowed D (Split p x) First) (Closing (Day j counted over))

-- The domains that are counted.
use Rattle.std.specs.Prelude.{◌≡◌, ◌≢◌, ℕ, List, [], Bool, slice_index_or, slice_set}
use Rattle.rwsp_terms.specs.Instance.{Instance, shift_count}
use Rattle.domain_store.specs.Sets.{has_symbol}
use Rattle.domain_store.specs.Store.{Store, domain_at}

pub record Counted : Type 0 where
  -- the days of a week, the weeks, and the number of shifts
  pub days : ℕ
  pub weeks : ℕ
  pub shifts : ℕ
  -- for each position the ascending numbers of the symbols of its domain
  pub sets : List (List ℕ)

-- the counts are those of the store's domains
pub record StandsFor (C : Counted) (S : Store) : Type 0 where
  pub days : C.days ≡ S.days
  pub weeks : C.weeks ≡ S.weeks
  pub shifts : C.shifts ≡ S.shifts
  pub sets : C.sets ≡ S.sets

-- both are of the same days, weeks and shifts
pub record HasShapeOf (C : Counted) (S : Store) : Type 0 where
  pub days : C.days ≡ S.days
  pub weeks : C.weeks ≡ S.weeks
  pub shifts : C.shifts ≡ S.shifts

-- the store's domains are those of the counts, except at one position at most
pub record DiffersAtMostAt (C : Counted) (S : Store) (p : ℕ) : Type 0 where
  pub shape : HasShapeOf C S
  pub others : (q : ℕ) → q ≢ p → slice_index_or C.sets q [] ≡ domain_at S q

-- the position has this domain
abbrev pub with_set : Counted → ℕ → List ℕ → Counted
with_set C p set = record C { sets = slice_set C.sets p set }

-- counts for the rosters of the instance
pub record CountsFor (P : Instance) (C : Counted) : Type 0 where
  pub days : C.days ≡ P.days
  pub weeks : C.weeks ≡ P.weeks
  pub shifts : C.shifts ≡ shift_count P

-- whether the domain of the position has the symbol
abbrev pub has_counted : Counted → ℕ → ℕ → Bool
has_counted C p x = has_symbol (slice_index_or C.sets p []) x

-- Domains, and the trail of their changes.
use Rattle.std.specs.Prelude.{◌≡◌, ◌≢◌, ℕ, ◌+◌, ◌-◌, ◌*◌, ◌<◌, ◌≤◌, List, [], ◌∷◌, ◌++◌, length, Bool, IsTrue, slice_set, slice_index_or, take, drop, replicate, All}
use Rattle.std.specs.List.{sum_by, range_with_len}
use Rattle.rwsp_terms.specs.declared.limits.TheConstants.{MOST_CELLS, MOST_SHIFTS}
use Rattle.rwsp_terms.specs.Instance.{Instance, cells, shift_count}
use Rattle.domain_store.specs.declared.change.Change.{Change}
use Rattle.domain_store.specs.Sets.{has_symbol, IsDomain}

pub record Store : Type 0 where
  -- the days of a week, the weeks, and the number of shifts
  pub days : ℕ
  pub weeks : ℕ
  pub shifts : ℕ
  -- for each position the ascending numbers of the symbols of its domain
  pub sets : List (List ℕ)
  -- the changes, the oldest first: each with its position and the domain that was there before
  pub trail : List Change

-- the domain of a position
abbrev pub domain_at : Store → ℕ → List ℕ
domain_at S p = slice_index_or S.sets p []

-- whether the domain of the position has the symbol
abbrev pub has_domain : Store → ℕ → ℕ → Bool
has_domain S p x = has_symbol (domain_at S p) x

-- each position has one symbol
abbrev pub IsDecided : Store → Type 0
IsDecided S = All (λ set. length set ≡ 1) S.sets

-- a store for the rosters of the instance
pub record BelongsTo (P : Instance) (S : Store) : Type 0 where
  pub days : S.days ≡ P.days
  pub weeks : S.weeks ≡ P.weeks
  pub shifts : S.shifts ≡ shift_count P

-- each domain has all symbols, and nothing was changed
abbrev pub full_store : Instance → Store
full_store P = record {
  days = P.days;
  weeks = P.weeks;
  shifts = shift_count P;
  sets = replicate (cells P) (range_with_len 0 (shift_count P + 1));
  trail = [];
}

-- the store after one change more: the position has this domain
abbrev pub changed : Store → ℕ → List ℕ → Store
changed S p set = record S {
  sets = slice_set S.sets p set;
  trail = S.trail ++ record { position = p; before = domain_at S p } ∷ [];
}

-- the domains before the changes were made, the last undone first
abbrev pub undone : List Change → List (List ℕ) → List (List ℕ)
undone [] sets = sets
undone (c ∷ changes) sets = slice_set (undone changes sets) c.position c.before

-- the store as it was when its trail was this long
abbrev pub store_at : Store → ℕ → Store
store_at S len = record S { sets = undone (drop len S.trail) S.sets; trail = take len S.trail }

-- the same days, weeks, shifts and positions
pub record HasSameShape (old new : Store) : Type 0 where
  pub days : new.days ≡ old.days
  pub weeks : new.weeks ≡ old.weeks
  pub shifts : new.shifts ≡ old.shifts
  pub positions : length new.sets ≡ length old.sets

-- how many symbols the domains have beyond one for each
abbrev pub spare : List (List ℕ) → ℕ
spare sets = sum_by (λ set. length set - 1) sets

-- what holds of each store
pub record IsStore (S : Store) : Type 0 where
  pub few_cells : S.weeks * S.days ≤ MOST_CELLS
  pub few_shifts : S.shifts ≤ MOST_SHIFTS
  pub long : length S.sets ≡ S.weeks * S.days
  pub domains : All (IsDomain S.shifts) S.sets
  pub places : All (λ c. c.position < S.weeks * S.days) S.trail
  -- each change took a symbol at least, and leaves one
  pub room : length S.trail + spare S.sets ≤ S.weeks * S.days * S.shifts

-- what holds of each store's domains, by the test of a symbol
pub record HasDomains (S : Store) : Type 0 where
  -- no other position has symbols, and none has one above the last
  pub known : (p x : ℕ) → IsTrue (has_domain S p x) → (p < length S.sets) × (x ≤ S.shifts)
  pub some : (p : ℕ) → p < length S.sets → (x : ℕ) × IsTrue (has_domain S p x)
  -- a domain of one symbol has no other, and a larger one has another beside any
  pub alone : (p x y : ℕ) → length (domain_at S p) ≡ 1 → IsTrue (has_domain S p x) → IsTrue (has_domain S p y) → x ≡ y
  pub others : (p x : ℕ) → 2 ≤ length (domain_at S p) → (y : ℕ) × (y ≢ x) × IsTrue (has_domain S p y)

-- it is a store now, and as it was with each shorter trail
abbrev pub IsStoreThroughout : Store → Type 0
IsStoreThroughout S = (len : ℕ) → len ≤ length S.trail → IsStore (store_at S len)

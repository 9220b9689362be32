-- The leaves of windows, and which of them a propagator must yet look at.
use Rattle.std.specs.Prelude.{◌≡◌, ℕ, ◌+◌, ◌%◌, ◌<◌, ◌≤◌, List, [], length, Bool, true, false, slice_index_or, None}
use Rattle.rwsp_terms.specs.declared.limits.TheConstants.{MOST_SHIFTS}
use Rattle.rwsp_terms.specs.Instance.{Instance, cells}
use Rattle.refutation_terms.specs.declared.lines.Line.{Line}
use Rattle.refutation_terms.specs.declared.lines.Line.TheVariants.{Closing}
use Rattle.refutation_terms.specs.declared.lines.Leaf.TheVariants.{Window}
use Rattle.refutation_terms.specs.Word.{Domains}
use Rattle.refutation_terms.specs.WindowLeaf.{IsBlocked}
use Rattle.refutation_terms.specs.Log.{LineFits}
use Rattle.domain_store.specs.Sets.{has_symbol}
use Rattle.domain_store.specs.Store.{Store, has_domain}

-- a window leaf of the problem
abbrev pub IsWindowLeaf : Instance → Line → Type 0
IsWindowLeaf P (Closing (Window number p len)) = LineFits P None false (Closing (Window number p len))
IsWindowLeaf P line = ⊥

-- what a propagator of windows is made of: its problem, the domain that it knows for each position, and whether the
-- position must yet be looked at
pub record WindowWatch : Type 0 where
  pub problem : Instance
  pub sets : List (List ℕ)
  pub pending : List Bool

-- whether the known domain of the position has the symbol
abbrev pub has_known : List (List ℕ) → Domains
has_known sets p x = has_symbol (slice_index_or sets p []) x

-- a window from p on lies over position q, round the cycle
abbrev pub LiesOver : Instance → ℕ → ℕ → ℕ → Type 0
LiesOver P p len q = (i : ℕ) × (i < len) × ((p + i) % cells P ≡ q)

-- a window that holds lies over a position which must yet be looked at
pub record IsWatch (w : WindowWatch) : Type 0 where
  pub long : length w.sets ≡ cells w.problem
  pub flags : length w.pending ≡ cells w.problem
  pub small : (p x : ℕ) → has_known w.sets p x ≡ true → x ≤ MOST_SHIFTS
  pub awaited : (number p len : ℕ) → LineFits w.problem None false (Closing (Window number p len))
      → IsBlocked w.problem (has_known w.sets) number p len
      → (q : ℕ) × (slice_index_or w.pending q false ≡ true) × LiesOver w.problem p len q

-- the positions that must yet be looked at come from the first on and before the end
pub record IsSpan (pending : List Bool) (first end : ℕ) : Type 0 where
  pub inside : end ≤ length pending
  pub has_all : (q : ℕ) → slice_index_or pending q false ≡ true → (first ≤ q) × (q < end)

-- a window leaf that holds
pub record IsWindow (P : Instance) (S : Store) (number p len : ℕ) : Type 0 where
  pub fits : LineFits P None false (Closing (Window number p len))
  pub holds : IsBlocked P (has_domain S) number p len

-- no window of the rule that lies over the position holds
abbrev pub NoWindowOver : Instance → Store → ℕ → ℕ → Type 0
NoWindowOver P S number q = (p len : ℕ) → IsWindow P S number p len → LiesOver P p len q → ⊥

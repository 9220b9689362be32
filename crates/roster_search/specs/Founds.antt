-- What a search finds.
use Rattle.std.specs.Prelude.{◌≡◌, ℕ, ◌≤◌, List, slice_get, Bool, true, false, Option, Some}
use Rattle.rwsp_terms.specs.declared.data.Symbol.{Symbol}
use Rattle.rwsp_terms.specs.Instance.{Instance}
use Rattle.refutation_terms.specs.declared.lines.Line.{Line}
use Rattle.refutation_terms.specs.declared.lines.Line.TheVariants.{Split}
use Rattle.refutation_terms.specs.declared.lines.Opening.{Opening}
use Rattle.refutation_terms.specs.declared.lines.Opening.TheVariants.{Given}
use Rattle.refutation_terms.specs.Word.{Domains, AreSame}
use Rattle.refutation_terms.specs.Tree.{domains_at}
use Rattle.refutation_terms.specs.FewLeaf.{FewHolds}
use Rattle.refutation_terms.specs.Log.{Log, Passes, IsSpent, NamesOnlyCited, size}
use Rattle.domain_store.specs.Store.{Store, BelongsTo, IsStore, has_domain}
use Rattle.domain_store.specs.Looks.{Closes}
use Rattle.roster_search.specs.Guides.{IsWantedBehind}
use Rattle.refutation_log.specs.declared.found.Found.{Found}
use Rattle.refutation_log.specs.declared.found.Found.TheVariants.{Roster, NoRoster, Undecided}

-- the propagator didn't close the domains at a split, and where a symbol was spent for it the split is of a spent
-- symbol at its position
pub record IsForced (P : Instance) (leaves : Store → Line → Type 0) (spent : Store → ℕ → Symbol → Type 0)
    (D : Domains) (p : ℕ) (x : Symbol) : Type 0 where
  pub store : Store
  pub is_store : IsStore store
  pub belongs : BelongsTo P store
  pub agrees : AreSame P (has_domain store) D
  pub not_closed : Closes P (leaves store) store → ⊥
  pub forced : (q : ℕ) (z : Symbol) → spent store q z → spent store p x

-- this is said of each split, by the domains at it, its position and its symbol
abbrev pub AtEachSplit : (Domains → ℕ → Symbol → Type 0) → Instance → Opening → List Line → Type 0
AtEachSplit Said P start lines =
    (k p : ℕ) (x : Symbol) → slice_get lines k ≡ Some (Split p x) → Said (domains_at P start lines k) p x

-- each split is as the propagator says
abbrev pub AreForced : Instance → (Store → Line → Type 0) → (Store → ℕ → Symbol → Type 0) → Opening → List Line
    → Type 0
AreForced P leaves spent start lines = AtEachSplit (IsForced P leaves spent) P start lines

-- with a goal, at each split as many weeks as that can still have a free weekend
abbrev pub FewHoldsAtNoSplit : Instance → Option ℕ → Opening → List Line → Type 0
FewHoldsAtNoSplit P goal start lines = AtEachSplit (λ D p x. FewHolds P goal D → ⊥) P start lines

-- the opening gives cells
abbrev pub gives_cells : Opening → Bool
gives_cells (Given given) = true
gives_cells start = false

-- a log from this opening, for this goal or none, that names what it cites and no more. It may count blocks exactly where
-- it gives cells
pub record IsLogOf (P : Instance) (start : Opening) (goal : Option ℕ) (g : Log) : Type 0 where
  pub same_opening : g.opening ≡ start
  pub same_goal : g.goal ≡ goal
  pub may_count : g.counts ≡ gives_cells start
  pub cited : NamesOnlyCited P g

-- such a log, whose splits are as the propagator says, and at none of them is the leaf of few weeks at hand
pub record IsSearchLog (P : Instance) (start : Opening) (goal : Option ℕ) (leaves : Store → Line → Type 0)
    (spent : Store → ℕ → Symbol → Type 0) (g : Log) : Type 0 where
  pub is_log : IsLogOf P start goal g
  pub splits : AreForced P leaves spent start g.lines
  pub no_few : FewHoldsAtNoSplit P goal start g.lines

-- a roster that meets every rule, has as many free weekends as the goal, where there is one, and holds the given cells;
-- or a log that passes, of at most the budget's size; or one that has spent the budget
abbrev pub IsFound : Instance → Opening → Option ℕ → ℕ → (Store → Line → Type 0)
    → (Store → ℕ → Symbol → Type 0) → Found → Type 0
IsFound P start goal budget leaves spent (Roster s) = IsWantedBehind P start goal s
IsFound P start goal budget leaves spent (NoRoster g) =
    Passes P g × (size g ≤ budget) × IsSearchLog P start goal leaves spent g
IsFound P start goal budget leaves spent (Undecided g) =
    IsSpent P g budget × IsSearchLog P start goal leaves spent g

-- the budget was spent
abbrev pub HasSpentBudget : Found → Type 0
HasSpentBudget (Undecided g) = Unit {0}
HasSpentBudget found = ⊥

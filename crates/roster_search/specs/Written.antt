-- What a search has written so far.
use Rattle.std.specs.Prelude.{◌≡◌, ◌⊎◌, ◌↔◌, ℕ, ◌+◌, ◌<◌, ◌≤◌, List, [], ◌∷◌, ◌++◌, length, slice_get, replicate, Option, Some, false, Contains}
use Rattle.rwsp_terms.specs.declared.data.Symbol.{Symbol}
use Rattle.rwsp_terms.specs.declared.data.Rule.{Rule}
use Rattle.rwsp_terms.specs.Instance.{Instance}
use Rattle.rwsp_terms.specs.Rules.{rule_of, Names}
use Rattle.refutation_terms.specs.declared.lines.Line.{Line}
use Rattle.refutation_terms.specs.declared.lines.Line.TheVariants.{Split, Unfinished}
use Rattle.refutation_terms.specs.declared.lines.Opening.{Opening}
use Rattle.refutation_terms.specs.Word.{Domains}
use Rattle.refutation_terms.specs.Tree.{IsLeaf, domains_at}
use Rattle.refutation_terms.specs.Log.{LineFits, OpeningFits, GoalFits, Holds, Cites, OpeningCites, ListsShortOnly, Passes, IsSpent, size}
use Rattle.domain_store.specs.Store.{Store}
use Rattle.domain_store.specs.States.{IsStateOf, open_trees}
use Rattle.domain_store.specs.Looks.{HasPlainLeaves, IsNarrowedAt}
use Rattle.roster_search.specs.Founds.{IsLogOf, AreForced, FewHoldsAtNoSplit}
use Rattle.roster_search.specs.Guides.{AreUnweighed}
use Rattle.roster_search.specs.declared.aim.Aim.{Aim}
use Rattle.roster_search.specs.declared.progress.Progress.{Progress}
use Rattle.refutation_log.specs.declared.found.Found.{Found}
use Rattle.refutation_log.specs.declared.found.Found.TheVariants.{Roster, NoRoster, Undecided}

-- a line that holds, with its numbers in their ranges and with short rules only in its list, for this goal or none, in
-- a log that may not count
pub record Stands (P : Instance) (goal : Option ℕ) (D : Domains) (line : Line) : Type 0 where
  pub holds : Holds P goal D line
  pub fits : LineFits P goal false line
  pub short : ListsShortOnly P line

-- the rule is that of the turn of the opening, or one of the lines cites it
abbrev pub IsCitedIn : Instance → Opening → List Line → Rule → Type 0
IsCitedIn P start lines r =
    OpeningCites start r ⊎ ((k : ℕ) × (line : Line) × (slice_get lines k ≡ Some line) × Cites P line r)

-- the lines hold and fit under the domains at them (`Stands`), the walk is behind them, and what they and the opening
-- cite is named
pub record IsProgress (P : Instance) (s : Progress) : Type 0 where
  pub state : IsStateOf P s.aim.opening s.lines.items s.walk
  pub opening_fits : OpeningFits P s.aim.opening
  pub goal_fits : GoalFits P s.aim.opening s.aim.goal
  pub stand : (k : ℕ) (line : Line) → slice_get s.lines.items k ≡ Some line
      → Stands P s.aim.goal (domains_at P s.aim.opening s.lines.items k) line
  pub cited : (r : Rule) → Names P s.named r ↔ IsCitedIn P s.aim.opening s.lines.items r
  pub numbers : (k : ℕ) → Contains s.named k → (r : Rule) × (rule_of P k ≡ Some r)
  pub few_open : open_trees s.walk ≤ length s.lines.items + 1

-- a split, and maybe the leaf of its first side
abbrev pub IsSplitWithLeaf : ℕ → Symbol → List Line → Type 0
IsSplitWithLeaf p x added = (added ≡ Split p x ∷ []) ⊎ ((leaf : Line) × IsLeaf leaf × (added ≡ Split p x ∷ leaf ∷ []))

-- such lines were written, and only the domain of their position became smaller
pub record IsSplitOff (P : Instance) (before after : Progress) (p : ℕ) (x : Symbol) : Type 0 where
  pub written : IsProgress P after
  pub same_aim : after.aim ≡ before.aim
  pub added : List Line
  pub split : IsSplitWithLeaf p x added
  pub lines : after.lines.items ≡ before.lines.items ++ added
  pub narrowed : IsNarrowedAt before.walk.store after.walk.store p

-- the lines of a search within its budget
pub record IsUnderWay (P : Instance) (s : Progress) : Type 0 where
  pub written : IsProgress P s
  pub few : length s.lines.items ≤ s.aim.budget

-- a search between two lines: the propagator serves it and tracks the domains behind its lines
pub record IsSearching {A : Type 0} (P : Instance) (served : A → Instance → Type 0) (tracked : A → Store → Type 0)
    (lines : A → Store → Line → Type 0) (propagator : A) (s : Progress) : Type 0 where
  pub serves : served propagator P
  pub tracks : tracked propagator s.walk.store
  pub plain : HasPlainLeaves P (lines propagator)
  pub unweighed : AreUnweighed s.aim.goal (lines propagator)
  pub under_way : IsUnderWay P s

-- a tree is still open, and the budget has room for one more line
abbrev pub HasRoom : Progress → Type 0
HasRoom s = (s.walk.whole ≡ false) × (length s.lines.items < s.aim.budget)

-- the same search later: where each split was as the propagator says before, each one is, and at none is the leaf of few
-- weeks at hand
pub record IsLater (P : Instance) (leaves : Store → Line → Type 0) (spent : Store → ℕ → Symbol → Type 0)
    (before after : Progress) : Type 0 where
  pub same_aim : after.aim ≡ before.aim
  pub forced : AreForced P leaves spent before.aim.opening before.lines.items
      → AreForced P leaves spent after.aim.opening after.lines.items
  pub no_few : FewHoldsAtNoSplit P before.aim.goal before.aim.opening before.lines.items
      → FewHoldsAtNoSplit P after.aim.goal after.aim.opening after.lines.items

-- the search one step later
pub record IsNextStep (P : Instance) (leaves : Store → Line → Type 0) (spent : Store → ℕ → Symbol → Type 0)
    (before after : Progress) : Type 0 where
  pub later : IsLater P leaves spent before after
  pub longer : length before.lines.items < length after.lines.items

-- the log of these lines: one that passes, or one that has spent the budget and leaves the rest unfinished
abbrev pub IsEnded : Instance → Aim → List Line → Found → Type 0
IsEnded P aim lines (Roster s) = ⊥
IsEnded P aim lines (NoRoster g) =
    Passes P g × (size g ≤ aim.budget) × IsLogOf P aim.opening aim.goal g × (g.lines ≡ lines)
IsEnded P aim lines (Undecided g) =
    IsSpent P g aim.budget × IsLogOf P aim.opening aim.goal g
    × ((n : ℕ) × (g.lines ≡ lines ++ replicate n Unfinished))

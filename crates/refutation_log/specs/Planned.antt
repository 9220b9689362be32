-- What is said of a plan.
use Rattle.std.specs.Prelude.{◌≡◌, ◌⊎◌, ◌↔◌, ℕ, ◌+◌, ◌*◌, ◌^◌, ◌<◌, ◌≤◌, [], ◌∷◌, Bool, true, false, IsTrue}
use Rattle.rwsp_terms.specs.declared.data.Symbol.{Symbol}
use Rattle.rwsp_terms.specs.Instance.{Instance, cells, shift_count}
use Rattle.rwsp_terms.specs.Roster.{MeetsAll}
use Rattle.refutation_terms.specs.declared.lines.Line.{Line}
use Rattle.refutation_terms.specs.declared.lines.Line.TheVariants.{Closing}
use Rattle.refutation_terms.specs.declared.lines.Leaf.TheVariants.{Window, Day, Blocks}
use Rattle.refutation_terms.specs.BlocksLeaf.{IsFirstBlocks, NoBlocksHold}
use Rattle.refutation_terms.specs.Word.{Domains}
use Rattle.refutation_terms.specs.Tree.{opening}
use Rattle.refutation_terms.specs.Log.{Log, Passes, IsSpent, NamesOnlyCited, size}
use Rattle.refutation_terms.specs.Sharp.{SomeWindowHolds, SomeDayHolds, IsSharp}
use Rattle.refutation_terms.specs.declared.lines.LogKind.TheVariants.{WithoutGoal}
use Rattle.refutation_terms.specs.Verdict.{kind_of_log}
use Rattle.refutation_log.specs.declared.found.Found.{Found}
use Rattle.refutation_log.specs.declared.found.Found.TheVariants.{Roster, NoRoster, Undecided}

-- a sharp log, without a goal or given cells, that names what it cites and no more
pub record IsPlannedLog (P : Instance) (g : Log) : Type 0 where
  pub of_kind : kind_of_log g ≡ WithoutGoal
  pub cited : NamesOnlyCited P g
  pub sharp : IsSharp P g

-- a roster that meets every rule; or a log that passes, within the budget; or a log that has spent the budget, which
-- a budget for all assignments can't be
abbrev pub IsPlanned : Instance → ℕ → Found → Type 0
IsPlanned P budget (Roster s) = (s.days ≡ P.days) × MeetsAll P s.cells
IsPlanned P budget (NoRoster g) = Passes P g × (size g ≤ budget) × IsPlannedLog P g
IsPlanned P budget (Undecided g) =
    IsSpent P g budget × IsPlannedLog P g × (budget + 1 < 2 * (shift_count P + 1) ^ cells P)

-- the tree of the log is the first leaf of blocks that holds: of the shifts in their order, then of the day off
abbrev pub IsBlocksTree : Instance → Log → Type 0
IsBlocksTree P g = (x : Symbol) × IsFirstBlocks P x × (g.lines ≡ Closing (Blocks x) ∷ [])

-- a window leaf or a day leaf
abbrev pub IsPlain : Line → Type 0
IsPlain (Closing (Window number p len)) = Unit {0}
IsPlain (Closing (Day j x over)) = Unit {0}
IsPlain line = ⊥

-- the tree of the log is one such leaf
abbrev pub IsPlainTree : Log → Type 0
IsPlainTree g = (line : Line) × IsPlain line × (g.lines ≡ line ∷ [])

-- no window leaf and no day leaf of the problem holds
abbrev pub NoPlainLeafHolds : Instance → Domains → Type 0
NoPlainLeafHolds P D = (SomeWindowHolds P D → ⊥) × (SomeDayHolds P D → ⊥)

-- the tree of the log is the first leaf of blocks that holds, where no window leaf and no day leaf holds before the
-- first line; or it is a window leaf or a day leaf
abbrev pub IsCountedTree : Instance → Log → Type 0
IsCountedTree P g = (IsBlocksTree P g × NoPlainLeafHolds P (opening P g.opening)) ⊎ IsPlainTree g

-- a log of a search that counts: it may count exactly where its tree is the first leaf of blocks that holds, and where
-- any of them holds, its tree is that leaf or one that comes before it
pub record IsCountingLog (P : Instance) (g : Log) : Type 0 where
  pub may_count : IsTrue g.counts ↔ IsBlocksTree P g
  pub counted_first : NoBlocksHold P ⊎ IsCountedTree P g

-- a log of a search that doesn't count may not count
abbrev pub IsCountedLog : Instance → Bool → Log → Type 0
IsCountedLog P false g = g.counts ≡ false
IsCountedLog P true g = IsCountingLog P g

-- the log that a plan finds, which counts or not, is such a one
abbrev pub IsCounted : Instance → Bool → Found → Type 0
IsCounted P counts (Roster s) = Unit {0}
IsCounted P counts (NoRoster g) = IsCountedLog P counts g
IsCounted P counts (Undecided g) = IsCountedLog P counts g

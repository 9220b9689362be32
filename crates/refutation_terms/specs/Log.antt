-- What it means that a log passes, and that it is spent.
use Rattle.std.specs.Prelude.{◌≡◌, ◌⊎◌, ℕ, ◌+◌, ◌<◌, ◌≤◌, List, length, slice_get, Bool, true, false, Option, Some, None, pos, ◌≤ℤ◌, count_by}
use Rattle.rwsp_terms.specs.declared.data.Rule.{Rule}
use Rattle.rwsp_terms.specs.declared.data.Rule.TheVariants as TheRules
use Rattle.rwsp_terms.specs.declared.limits.TheConstants.{DAYS_OF_WEEK}
use Rattle.rwsp_terms.specs.declared.data.Symbol.{Symbol}
use Rattle.rwsp_terms.specs.Instance.{Instance, cells, least, IsSymbol, IsDay}
use Rattle.rwsp_terms.specs.Rules.{Names}
use Rattle.refutation_terms.specs.declared.lines.Line.{Line}
use Rattle.refutation_terms.specs.declared.lines.Line.TheVariants.{Split, Closing, Unfinished}
use Rattle.refutation_terms.specs.declared.lines.Opening.{Opening}
use Rattle.refutation_terms.specs.declared.lines.Opening.TheVariants.{Full, Turned, Given}
use Rattle.refutation_terms.specs.Word.{Domains}
use Rattle.refutation_terms.specs.Ranges.{AreRules}
use Rattle.refutation_terms.specs.GivenCells.{AreGivenIn, HoldsCells}
use Rattle.refutation_terms.specs.Leaves.{LeafFits, LeafCites, LeafHolds, LeafListsShort}
use Rattle.refutation_terms.specs.Tree.{IsTree, domains_at, is_idle}

-- the rules that the log names, what is known before its first line, its goal if it has one, whether its lines may
-- count blocks, and its lines. A log with a goal, which is a free log, says that no roster has as many free weekends as
-- the goal
pub record Log : Type 0 where
  pub named : List ℕ
  pub opening : Opening
  pub goal : Option ℕ
  pub counts : Bool
  pub lines : List Line

-- the numbers of a line are in their ranges, and its symbols are the problem's, in a log with this goal or none, which
-- may count or not
abbrev pub LineFits : Instance → Option ℕ → Bool → Line → Type 0
LineFits P goal counts (Split p x) = (p < cells P) × IsSymbol P x
LineFits P goal counts (Closing leaf) = LeafFits P goal counts leaf
LineFits P goal counts Unfinished = Unit {0}

-- a turn is to a symbol of the problem on one of its days, and given cells are cells of its rosters
abbrev pub OpeningFits : Instance → Opening → Type 0
OpeningFits P Full = Unit {0}
OpeningFits P (Turned t) = IsDay P t.day × IsSymbol P t.x
OpeningFits P (Given given) = AreGivenIn P given

-- a free log has no turn and no given cells. Its week has seven days, and its goal is at most one more than the weeks
abbrev pub GoalFits : Instance → Opening → Option ℕ → Type 0
GoalFits P o None = Unit {0}
GoalFits P o (Some goal) = (o ≡ Full) × (P.days ≡ DAYS_OF_WEEK) × (goal ≤ P.weeks + 1)

-- a log that gives cells may count
abbrev pub CountsFit : Opening → Bool → Type 0
CountsFit (Given given) counts = counts ≡ true
CountsFit o counts = Unit {0}

-- a log over the rules, days, positions and symbols of the problem
pub record Fits (P : Instance) (g : Log) : Type 0 where
  pub named : AreRules P g.named
  pub opening : OpeningFits P g.opening
  pub goal : GoalFits P g.opening g.goal
  pub counts : CountsFit g.opening g.counts
  pub lines : (k : ℕ) (line : Line) → slice_get g.lines k ≡ Some line → LineFits P g.goal g.counts line

-- a split that isn't idle, or a leaf that holds, in a log with this goal or none
abbrev pub Holds : Instance → Option ℕ → Domains → Line → Type 0
Holds P goal D (Split p x) = is_idle P D p x.number ≡ false
Holds P goal D (Closing leaf) = LeafHolds P goal D leaf
Holds P goal D Unfinished = ⊥

-- the rules that a line rests on
abbrev pub Cites : Instance → Line → Rule → Type 0
Cites P (Split p x) r = ⊥
Cites P (Closing leaf) r = LeafCites P leaf r
Cites P Unfinished r = ⊥

-- each rule that the line rests on is named
abbrev pub CitesOnlyNamed : Instance → List ℕ → Line → Type 0
CitesOnlyNamed P named line = (r : Rule) → Cites P line r → Names P named r

-- the rule that a turn rests on
abbrev pub OpeningCites : Opening → Rule → Type 0
OpeningCites Full r = ⊥
OpeningCites (Turned t) r = r ≡ TheRules.Day t.day
OpeningCites (Given given) r = ⊥

-- the roster has the cells that are given. A turn asks for nothing: some turned roster has it
abbrev pub HoldsOpening : Opening → List Symbol → Type 0
HoldsOpening (Given given) s = HoldsCells given s
HoldsOpening o s = Unit {0}

-- a turn is to a symbol that some week must hold on its day
abbrev pub IsAllowed : Instance → Opening → Type 0
IsAllowed P Full = Unit {0}
IsAllowed P (Turned t) = pos 1 ≤ℤ least P t.x.number t.day
IsAllowed P (Given given) = Unit {0}

-- the lists of leaves of words hold short rules only
abbrev pub ListsShortOnly : Instance → Line → Type 0
ListsShortOnly P (Closing leaf) = LeafListsShort P leaf
ListsShortOnly P line = Unit {0}

-- the line at k holds under the domains there
abbrev pub HoldsAt : Instance → Log → ℕ → Line → Type 0
HoldsAt P g k line = Holds P g.goal (domains_at P g.opening g.lines k) line

-- the log fits the problem, its turn is allowed, each cited rule is named, and lists hold short rules only
pub record IsGrounded (P : Instance) (g : Log) : Type 0 where
  pub fits : Fits P g
  pub allowed : IsAllowed P g.opening
  pub turn_named : (r : Rule) → OpeningCites g.opening r → Names P g.named r
  pub named : (k : ℕ) (line : Line) (r : Rule) → slice_get g.lines k ≡ Some line → Cites P line r → Names P g.named r
  pub short : (k : ℕ) (line : Line) → slice_get g.lines k ≡ Some line → ListsShortOnly P line

-- one whole tree, in which no split is idle and each leaf holds
pub record Passes (P : Instance) (g : Log) : Type 0 where
  pub grounded : IsGrounded P g
  pub tree : IsTree g.lines
  pub holds : (k : ℕ) (line : Line) → slice_get g.lines k ≡ Some line → HoldsAt P g k line

-- the header names no rule that neither a line nor the turn cites
abbrev pub NamesOnlyCited : Instance → Log → Type 0
NamesOnlyCited P g =
    (r : Rule) → Names P g.named r
    → OpeningCites g.opening r ⊎ ((k : ℕ) × (line : Line) × (slice_get g.lines k ≡ Some line) × Cites P line r)

-- every line but an unfinished one
abbrev pub is_worked : Line → Bool
is_worked Unfinished = false
is_worked line = true

-- the number of splits and of leaves
abbrev pub size : Log → ℕ
size g = count_by is_worked g.lines

-- one whole tree, of which the first lines use up the budget and hold, and all further lines, one at least, are
-- unfinished
pub record IsSpent (P : Instance) (g : Log) (budget : ℕ) : Type 0 where
  pub grounded : IsGrounded P g
  pub tree : IsTree g.lines
  pub holds : (k : ℕ) (line : Line) → k < budget → slice_get g.lines k ≡ Some line → HoldsAt P g k line
  pub rest : (k : ℕ) (line : Line) → budget ≤ k → slice_get g.lines k ≡ Some line → line ≡ Unfinished
  pub unfinished : budget < length g.lines

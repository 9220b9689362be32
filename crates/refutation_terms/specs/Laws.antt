-- Laws of the definitions, as the contracts of src/laws.rt state them.
use Rattle.std.specs.Prelude.{◌≡◌, ◌≢◌, ◌⊎◌, ◌↔◌, ℕ, ◌-◌, ◌+◌, ◌%◌, ◌*◌, ◌<◌, ◌≤◌, EachIndex, List, [], ◌∷◌, ◌++◌, take, length, slice_get, slice_index_or, Option, Some, None, IsTrue, false, count_by, ◌&&◌, Contains, pos, ◌*ℤ◌, ◌≤ℤ◌}
use Rattle.std.specs.List.{range_with_len}
use Rattle.rwsp_terms.specs.declared.limits.TheConstants.{DAYS_OF_WEEK, SATURDAY, SUNDAY}
use Rattle.rwsp_terms.specs.declared.data.Symbol.{Symbol}
use Rattle.rwsp_terms.specs.declared.data.Weight.{Weight}
use Rattle.rwsp_terms.specs.declared.data.Rule.{Rule}
use Rattle.rwsp_terms.specs.Instance.{Instance, cells, shift_count, least, greatest, IsDay, IsSymbol, off_symbol}
use Rattle.rwsp_terms.specs.Window.{window}
use Rattle.rwsp_terms.specs.Roster.{IsRoster, IsRule, MeetsDay, MeetsRule}
use Rattle.rwsp_terms.specs.Rules.{Meets}
use Rattle.refutation_terms.specs.declared.lines.Line.{Line}
use Rattle.refutation_terms.specs.declared.lines.Line.TheVariants.{Split}
use Rattle.refutation_terms.specs.declared.lines.Opening.{Opening}
use Rattle.refutation_terms.specs.declared.lines.Opening.TheVariants.{Turned}
use Rattle.refutation_terms.specs.declared.lines.Turn.{Turn}
use Rattle.refutation_terms.specs.Word.{Domains, AreDomains, Within, turned, Over, Clean, weight, total}
use Rattle.refutation_terms.specs.FreeWeekends.{is_off_at, free_weekends}
use Rattle.refutation_terms.specs.Tree.{IsLeaf, IsTree, after_trees, First, Second, side, InFirst, InSecond, narrowed, opening, domains_at, is_idle}
use Rattle.refutation_terms.specs.Ranges.{HasWeight}
use Rattle.refutation_terms.specs.BlocksLeaf.{block_count, BlockCountFits, BlocksCite}
use Rattle.refutation_terms.specs.Log.{Log, OpeningFits, HoldsOpening, Passes, IsSpent}
use Rattle.refutation_terms.specs.Sharp.{IsScarcestTurn}

-- one leaf line
abbrev pub IsOneLeaf : List Line → Type 0
IsOneLeaf lines = (line : Line) × IsLeaf line × (lines ≡ line ∷ [])

-- a split followed by two whole trees
abbrev pub IsSplitWithTrees : List Line → Type 0
IsSplitWithTrees lines =
    (p : ℕ) × (x : Symbol) × (first : List Line) × (second : List Line)
    × (lines ≡ Split p x ∷ first ++ second) × IsTree first × IsTree second

-- a list of lines is one whole tree where it is one leaf line, or a split followed by two whole trees
abbrev pub TreesAreAsSaid : Type 0
TreesAreAsSaid = (lines : List Line) → IsTree lines ↔ (IsOneLeaf lines ⊎ IsSplitWithTrees lines)

-- a walk from the front that has read one whole tree at the end has read the lines of a tree, and no other lines
abbrev pub WalksReadTrees : Type 0
WalksReadTrees = (lines : List Line) → (after_trees 1 lines ≡ Some []) ↔ IsTree lines

-- the walk finds the side that a line is in
abbrev pub SidesAreAsSaid : Type 0
SidesAreAsSaid =
    (between : List Line) → ((side between ≡ First) ↔ InFirst between) × ((side between ≡ Second) ↔ InSecond between)

-- the splits among the earlier lines leave z at p: it equals x for each `split p x` in whose first side the line
-- behind them is, and differs from x for each in whose second side it is
abbrev pub SplitsLeave : List Line → ℕ → ℕ → Type 0
SplitsLeave earlier p z =
    (before between : List Line) (x : Symbol) → earlier ≡ before ++ Split p x ∷ between
    → (InFirst between → z ≡ x.number) × (InSecond between → z ≢ x.number)

-- the domains at a line give a position the symbols of its opening domain that the splits leave
abbrev pub DomainsAreAsSaid : Type 0
DomainsAreAsSaid =
    (P : Instance) (o : Opening) (lines : List Line) (k p z : ℕ)
    → IsTrue (domains_at P o lines k p z) ↔ (IsTrue (opening P o p z) × SplitsLeave (take k lines) p z)

-- a split isn't idle where its symbol is in the domain and another symbol is too
abbrev pub IdleIsAsSaid : Type 0
IdleIsAsSaid =
    (P : Instance) (D : Domains) (p x : ℕ)
    → (is_idle P D p x ≡ false) ↔ (IsTrue (D p x) × ((z : ℕ) × (z ≤ shift_count P) × (z ≢ x) × IsTrue (D p z)))

-- a word over domains has at each place i a symbol of the domain of (p + i) mod L
abbrev pub OverIsAsSaid : Type 0
OverIsAsSaid =
    (P : Instance) (D : Domains) (p : ℕ) (u : List Symbol)
    → Over P D p u ↔ EachIndex u (λ i. IsTrue (D ((p + i) % cells P) (slice_index_or u i off_symbol).number))

-- no split before line k is idle
abbrev pub HasNoIdleSplit : Instance → Opening → List Line → ℕ → Type 0
HasNoIdleSplit P o lines k =
    (i p : ℕ) (x : Symbol) → i < k → slice_get lines i ≡ Some (Split p x)
    → is_idle P (domains_at P o lines i) p x.number ≡ false

-- no domain at a line is empty where no earlier split is idle
abbrev pub DomainsAreNeverEmpty : Type 0
DomainsAreNeverEmpty =
    (P : Instance) (o : Opening) (lines : List Line) (k : ℕ)
    → OpeningFits P o → IsTree lines → k < length lines → HasNoIdleSplit P o lines k
    → AreDomains P (domains_at P o lines k)

-- within the domains, every window of a roster is a word over them, from every position and for every length
abbrev pub WindowsAreOver : Type 0
WindowsAreOver =
    (P : Instance) (D : Domains) (s : List Symbol) (p len : ℕ)
    → 0 < cells P → Within P D s → Over P D p (window s p len)

-- a roster within the domains is in one of the two sides of a split
abbrev pub SidesTakeAll : Type 0
SidesTakeAll =
    (P : Instance) (D : Domains) (p : ℕ) (x : Symbol) (s : List Symbol) → Within P D s
    → Within P (narrowed D (Split p x) First) s ⊎ Within P (narrowed D (Split p x) Second) s

-- and never in both
abbrev pub SidesShareNone : Type 0
SidesShareNone =
    (P : Instance) (D : Domains) (p : ℕ) (x : Symbol) (s : List Symbol) → p < cells P
    → Within P (narrowed D (Split p x) First) s → Within P (narrowed D (Split p x) Second) s → ⊥

-- a roster that meets the rules of a list has only windows that are clean for it
abbrev pub WindowsAreClean : Type 0
WindowsAreClean =
    (P : Instance) (R : List ℕ) (s : List Symbol) (p len : ℕ)
    → 0 < cells P → Meets P R s → Clean P R p (window s p len)

-- a clean word stays clean when it is cut at either end
abbrev pub PartsAreClean : Type 0
PartsAreClean =
    (P : Instance) (R : List ℕ) (p : ℕ) (before part after : List Symbol)
    → Clean P R p (before ++ part ++ after) → Clean P R (p + length before) part

-- and when rules are taken out of the list
abbrev pub FewerRulesAreClean : Type 0
FewerRulesAreClean =
    (P : Instance) (R fewer : List ℕ) (p : ℕ) (u : List Symbol)
    → ((k : ℕ) → Contains fewer k → Contains R k) → Clean P R p u → Clean P fewer p u

-- the roster meets the rule of each day on which something weighs
abbrev pub MeetsWeighedDays : Instance → List Weight → List Symbol → Type 0
MeetsWeighedDays P y s = (j : ℕ) → IsDay P j → HasWeight y j → MeetsDay P j s

-- the demand of each day on which something weighs is in single numbers
abbrev pub HasSingleNumbers : Instance → List Weight → Type 0
HasSingleNumbers P y = (j x : ℕ) → IsDay P j → HasWeight y j → x ≤ shift_count P → least P x j ≡ greatest P x j

-- a window of some turns of a roster that meets these days weighs at least the total times the turns
abbrev pub WindowsWeighEnough : Type 0
WindowsWeighEnough =
    (P : Instance) (y : List Weight) (s : List Symbol) (p turns : ℕ) → IsRoster P s → MeetsWeighedDays P y s
    → (pos turns *ℤ total P y) ≤ℤ weight P y p (window s p (turns * cells P))

-- and exactly so where their demand is in single numbers
abbrev pub WindowsWeighExactly : Type 0
WindowsWeighExactly =
    (P : Instance) (y : List Weight) (s : List Symbol) (p turns : ℕ) → IsRoster P s → MeetsWeighedDays P y s
    → HasSingleNumbers P y
    → weight P y p (window s p (turns * cells P)) ≡ pos turns *ℤ total P y

-- turning a roster by whole weeks keeps every rule met, and every rule not met
abbrev pub TurningKeepsRules : Type 0
TurningKeepsRules =
    (P : Instance) (k : ℕ) (r : Rule) (s : List Symbol) → 0 < cells P → IsRoster P s → IsRule P r
    → MeetsRule P r s ↔ MeetsRule P r (turned P k s)

-- and so the rules of a list
abbrev pub TurningKeepsLists : Type 0
TurningKeepsLists =
    (P : Instance) (k : ℕ) (R : List ℕ) (s : List Symbol) → 0 < cells P → IsRoster P s
    → Meets P R s ↔ Meets P R (turned P k s)

-- where a day is met and a symbol must be there, some turned roster has it in week 1 on that day
abbrev pub SomeTurnHasIt : Type 0
SomeTurnHasIt =
    (P : Instance) (s : List Symbol) (j : ℕ) (x : Symbol)
    → IsRoster P s → IsDay P j → IsSymbol P x → MeetsDay P j s → pos 1 ≤ℤ least P x.number j
    → (k : ℕ) × (slice_index_or (turned P k s) (j - 1) off_symbol ≡ x)

-- a roster has at least as many free weekends as the goal, where there is one
abbrev pub HasGoal : Option ℕ → List Symbol → Type 0
HasGoal None s = Unit {0}
HasGoal (Some goal) s = goal ≤ free_weekends s

-- a log that passes, with a turn, a goal or given cells or without, and a roster that meets the rules that it names,
-- has as many free weekends as the goal and holds the cells exclude each other
abbrev pub PassingLeavesNoRoster : Type 0
PassingLeavesNoRoster =
    (P : Instance) (g : Log) (s : List Symbol)
    → Passes P g → Meets P g.named s → HasGoal g.goal s → HoldsOpening g.opening s → ⊥

-- a roster of weeks of seven days has as many free weekends as weeks with both days of the weekend off
abbrev pub FreeWeekendsAreWeeks : Type 0
FreeWeekendsAreWeeks =
    (P : Instance) (s : List Symbol) → P.days ≡ DAYS_OF_WEEK → IsRoster P s
    → free_weekends s ≡ count_by (λ i. is_off_at s (i * DAYS_OF_WEEK + SATURDAY) && is_off_at s (i * DAYS_OF_WEEK + SUNDAY)) (range_with_len 0 P.weeks)

-- the word that goes through a whole roster of such weeks `turns` times has its free weekends `turns` times
abbrev pub TurnsHaveFreeWeekends : Type 0
TurnsHaveFreeWeekends =
    (P : Instance) (s : List Symbol) (turns : ℕ) → P.days ≡ DAYS_OF_WEEK → IsRoster P s
    → free_weekends (window s 0 (turns * cells P)) ≡ turns * free_weekends s

-- no two turns are both to the scarcest shift
abbrev pub ScarcestTurnIsOne : Type 0
ScarcestTurnIsOne = (P : Instance) (t u : Turn) → IsScarcestTurn P (Turned t) → IsScarcestTurn P (Turned u) → t ≡ u

-- a log that passes is not spent, whatever the budget
abbrev pub PassingIsNotSpent : Type 0
PassingIsNotSpent = (P : Instance) (g : Log) (budget : ℕ) → Passes P g → IsSpent P g budget → ⊥

-- the numbers of blocks of a roster that meets their lengths and the demand of each day fit: a leaf of blocks that holds
-- leaves none
abbrev pub BlockCountsFit : Type 0
BlockCountsFit =
    (P : Instance) (x : Symbol) (s : List Symbol) → IsRoster P s → IsSymbol P x
    → ((r : Rule) → BlocksCite P x r → MeetsRule P r s)
    → (block_count s x.number ≤ cells P) × BlockCountFits P x (block_count s x.number)

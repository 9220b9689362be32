-- The text of a log, which line a text spells, and the kinds of lines that there are.
use Rattle.std.specs.Prelude.{◌≡◌, ℕ, zero, suc, ◌+◌, ◌*◌, ◌/◌, ◌%◌, ◌<◌, ◌≤◌, List, [], ◌∷◌, ◌++◌, length, map, All, AllPairs, Bool, true, false, Option, Some, None, IfSome, codes}
use Rattle.std.specs.List.{concat, flat_map}
use Rattle.std.specs.Fmt.{decimal}
use Rattle.std.specs.Option.{option_map}
use Rattle.rwsp_text.specs.Fields.{Word, Number, Name, Choice, Place, Rules, Weights, Cells, either_word, IsName, NamedWeight, IsNamedWeight, NamedCell, numbers, weight_fields, cell_fields, text_of}
use Rattle.rwsp_text.specs.Kinds.{Kind}
use Rattle.rwsp_terms.specs.declared.limits.TheConstants.{GREATEST_WEIGHT, GREATEST_REWARD, LONGEST_WORD}
use Rattle.rwsp_terms.specs.declared.data.Symbol.{Symbol}
use Rattle.rwsp_terms.specs.declared.data.Weight.{Weight}
use Rattle.rwsp_terms.specs.Instance.{Instance, cells, IsDay, symbol_of, name_of}
use Rattle.rwsp_terms.specs.Rules.{rules}
use Rattle.rwsp_terms.specs.Weights.{ComesBefore}
use Rattle.refutation_terms.specs.declared.lines.Line.{Line}
use Rattle.refutation_terms.specs.declared.lines.Line.TheVariants.{Split, Unfinished, Closing}
use Rattle.refutation_terms.specs.declared.lines.Leaf.TheVariants.{Window, Day, Few, Words, Blocks}
use Rattle.refutation_terms.specs.declared.lines.WordClaim.TheVariants.{Dead, Light}
use Rattle.refutation_terms.specs.declared.lines.Opening.{Opening}
use Rattle.refutation_terms.specs.declared.lines.Opening.TheVariants.{Full, Turned, Given}
use Rattle.refutation_terms.specs.declared.cells.GivenCell.{GivenCell}
use Rattle.refutation_terms.specs.declared.lines.Version.{Version}
use Rattle.refutation_terms.specs.declared.lines.Version.TheVariants.{Version1, Version2, Version3, Free1, Free2, Fill1}
use Rattle.refutation_terms.specs.Ranges.{IsLength, AreRules}
use Rattle.refutation_terms.specs.Log.{Log}

-- a line as it is written: with the names of symbols, as their bytes
pub data RawLine : Type 0 where
  RawSplit : (p : ℕ) (name : List ℕ) → RawLine
  RawWindow : (rule p len : ℕ) → RawLine
  RawDay : (day : ℕ) (name : List ℕ) (over : Bool) → RawLine
  RawDead : (p len : ℕ) (R : List ℕ) → RawLine
  RawBound : (p turns : ℕ) (R : List ℕ) (y : List NamedWeight) → RawLine
  RawFew : RawLine
  RawFree : (turns reward : ℕ) (R : List ℕ) (y : List NamedWeight) → RawLine
  RawBlocks : (name : List ℕ) → RawLine
  RawUnfinished : RawLine

-- a weight with the name of its symbol
abbrev pub named_weight : Instance → Weight → NamedWeight
named_weight P e = record { day = e.day; name = name_of P e.symbol; value = e.value }

-- what is claimed of words is written in a row of its own for logs without a goal and with one
abbrev pub raw_light : Instance → Option ℕ → ℕ → ℕ → ℕ → List ℕ → List Weight → RawLine
raw_light P None p turns reward R y = RawBound p turns R (map (named_weight P) y)
raw_light P (Some goal) p turns reward R y = RawFree turns reward R (map (named_weight P) y)

-- a line of a log with this goal or none, with the names of its symbols
abbrev pub raw : Instance → Option ℕ → Line → RawLine
raw P goal (Split p x) = RawSplit p (name_of P x)
raw P goal (Closing (Window rule p len)) = RawWindow rule p len
raw P goal (Closing (Day j x over)) = RawDay j (name_of P x) over
raw P goal (Closing (Words p R (Dead len))) = RawDead p len R
raw P goal (Closing (Words p R (Light turns reward y))) = raw_light P goal p turns reward R y
raw P goal (Closing Few) = RawFew
raw P goal (Closing (Blocks x)) = RawBlocks (name_of P x)
raw P goal Unfinished = RawUnfinished

-- the week and the day of a position, both from 1 on
abbrev pub place_words : Instance → ℕ → List (List ℕ)
place_words P p = decimal (p / P.days + 1) ∷ decimal (p % P.days + 1) ∷ []

-- whether a day leaf says that there are too many or too few
abbrev pub way : Bool → List ℕ
way over = either_word (codes "over") (codes "short") over

-- the fields of a line: words, names and numbers
abbrev pub raw_fields : Instance → RawLine → List (List ℕ)
raw_fields P (RawSplit p name) = codes "split" ∷ place_words P p ++ (name ∷ [])
raw_fields P (RawWindow rule p len) = codes "window" ∷ decimal rule ∷ place_words P p ++ (decimal len ∷ [])
raw_fields P (RawDay day name over) = codes "day" ∷ decimal day ∷ name ∷ way over ∷ []
raw_fields P (RawDead p len R) = codes "dead" ∷ place_words P p ++ (decimal len ∷ codes "rules" ∷ numbers R)
raw_fields P (RawBound p turns R y) =
    codes "bound" ∷ place_words P p ++ (decimal turns ∷ codes "rules" ∷ numbers R)
    ++ (codes "weights" ∷ flat_map weight_fields y)
raw_fields P RawFew = codes "few" ∷ []
raw_fields P (RawFree turns reward R y) =
    codes "free" ∷ decimal turns ∷ decimal reward ∷ codes "rules" ∷ numbers R
    ++ (codes "weights" ∷ flat_map weight_fields y)
raw_fields P (RawBlocks name) = codes "blocks" ∷ name ∷ []
raw_fields P RawUnfinished = codes "open" ∷ []

-- a written line
abbrev pub line_text : Instance → RawLine → List ℕ
line_text P line = text_of (raw_fields P line)

-- line 1, the version
abbrev pub version_text : Version → List ℕ
version_text Version1 = text_of (codes "rwsp-log" ∷ codes "1" ∷ [])
version_text Version2 = text_of (codes "rwsp-log" ∷ codes "2" ∷ [])
version_text Version3 = text_of (codes "rwsp-log" ∷ codes "3" ∷ [])
version_text Free1 = text_of (codes "rwsp-free" ∷ codes "1" ∷ [])
version_text Free2 = text_of (codes "rwsp-free" ∷ codes "2" ∷ [])
version_text Fill1 = text_of (codes "rwsp-fill" ∷ codes "1" ∷ [])

-- line 2, the named rules
abbrev pub rules_text : List ℕ → List ℕ
rules_text R = text_of (codes "rules" ∷ numbers R)

-- in versions 2 and 3 line 3, the turn
abbrev pub turn_text : List ℕ → ℕ → List ℕ
turn_text name day = text_of (codes "turn" ∷ name ∷ decimal day ∷ [])

-- in a free log line 3, the goal
abbrev pub goal_text : ℕ → List ℕ
goal_text goal = text_of (codes "goal" ∷ decimal goal ∷ [])

-- in version 3 line 3 where there is no turn
abbrev pub no_turn_text : List ℕ
no_turn_text = text_of (codes "turn" ∷ [])

-- in a fill log line 3, the given cells by the names of their symbols
abbrev pub named_cells_text : Instance → List NamedCell → List ℕ
named_cells_text P named = text_of (codes "cells" ∷ flat_map (cell_fields P.days) named)

abbrev pub named_cell : Instance → GivenCell → NamedCell
named_cell P c = record { p = c.p; name = name_of P c.x }

abbrev pub cells_text : Instance → List GivenCell → List ℕ
cells_text P given = named_cells_text P (map (named_cell P) given)

-- the version of a log without given cells and without a goal
abbrev pub plain_version : Opening → Bool → Version
plain_version o true = Version3
plain_version Full false = Version1
plain_version o false = Version2

-- the version of a log with this opening and this goal or none, which may count or not
abbrev pub version_of : Opening → Option ℕ → Bool → Version
version_of (Given given) goal counts = Fill1
version_of o (Some goal) false = Free1
version_of o (Some goal) true = Free2
version_of o None counts = plain_version o counts

-- the third line of a log without a goal: none where there is no turn and the log doesn't count
abbrev pub opening_text : Instance → Opening → Bool → List ℕ
opening_text P (Given given) counts = cells_text P given
opening_text P (Turned t) counts = turn_text (name_of P t.x) t.day
opening_text P Full true = no_turn_text
opening_text P Full false = []

-- the third line of a log with this opening and this goal or none, which may count or not
abbrev pub third_text : Instance → Opening → Option ℕ → Bool → List ℕ
third_text P o None counts = opening_text P o counts
third_text P o (Some goal) counts = goal_text goal

-- the header of a log with this opening and this goal or none, which may count or not
abbrev pub header_text : Instance → List ℕ → Opening → Option ℕ → Bool → List ℕ
header_text P named o goal counts =
    version_text (version_of o goal counts) ++ rules_text named ++ third_text P o goal counts

-- the text of some lines of a log with this goal or none
abbrev pub lines_text : Instance → Option ℕ → List Line → List ℕ
lines_text P goal lines = concat (map (λ line. line_text P (raw P goal line)) lines)

-- the text of a log: its header and then its lines
abbrev pub log_text : Instance → Log → List ℕ
log_text P g = header_text P g.named g.opening g.goal g.counts ++ lines_text P g.goal g.lines

-- a value that isn't 0, from the least weight to the greatest, on a day of the problem
abbrev pub WeightIsInRange : Instance → NamedWeight → Type 0
WeightIsInRange P e = IsNamedWeight P.days GREATEST_WEIGHT e

-- the numbers of a written line are in their ranges, its lists of rules ascend, and its names are names. Only a log
-- that may count has blocks, only one without a goal has bounds, and only one with a goal has few and free lines
abbrev pub IsInRange : Instance → Option ℕ → Bool → RawLine → Type 0
IsInRange P goal counts (RawSplit p name) = (p < cells P) × IsName name
IsInRange P goal counts (RawWindow rule p len) = (0 < rule) × (rule ≤ length (rules P)) × (p < cells P) × IsLength len
IsInRange P goal counts (RawDay day name over) = IsDay P day × IsName name
IsInRange P goal counts (RawDead p len R) = (p < cells P) × IsLength len × AreRules P R
IsInRange P goal counts RawUnfinished = Unit {0}
IsInRange P goal true (RawBlocks name) = IsName name
IsInRange P None counts (RawBound p turns R y) =
    (p < cells P) × IsLength (turns * cells P) × AreRules P R × All (WeightIsInRange P) y
IsInRange P (Some goal) counts RawFew = Unit {0}
IsInRange P (Some goal) counts (RawFree turns reward R y) =
    IsLength (turns * cells P) × (reward ≤ GREATEST_REWARD) × AreRules P R × All (WeightIsInRange P) y
IsInRange P goal counts line = ⊥

-- a weight with a symbol for its name, before further weights
abbrev pub with_weight : NamedWeight → Option Symbol → Option (List Weight) → Option (List Weight)
with_weight e (Some x) (Some y) = Some (record { day = e.day; symbol = x; value = e.value } ∷ y)
with_weight e x y = None

-- the weights with symbols for their names, where each is the name of one
abbrev pub weights_of : Instance → List NamedWeight → Option (List Weight)
weights_of P [] = Some []
weights_of P (e ∷ y) = with_weight e (symbol_of P e.name) (weights_of P y)

-- the line with symbols for its names
abbrev pub line_of : Instance → RawLine → Option Line
line_of P (RawSplit p name) = option_map (λ x. Split p x) (symbol_of P name)
line_of P (RawWindow rule p len) = Some (Closing (Window rule p len))
line_of P (RawDay day name over) = option_map (λ x. Closing (Day day x over)) (symbol_of P name)
line_of P (RawDead p len R) = Some (Closing (Words p R (Dead len)))
line_of P (RawBound p turns R y) = option_map (λ y. Closing (Words p R (Light turns 0 y))) (weights_of P y)
line_of P RawFew = Some (Closing Few)
line_of P (RawFree turns reward R y) = option_map (λ y. Closing (Words 0 R (Light turns reward y))) (weights_of P y)
line_of P (RawBlocks name) = option_map (λ x. Closing (Blocks x)) (symbol_of P name)
line_of P RawUnfinished = Some Unfinished

-- weights ascend by day and then by symbol
abbrev pub WeightsAscend : Line → Type 0
WeightsAscend (Closing (Words p R (Light turns reward y))) = AllPairs ComesBefore y
WeightsAscend line = Unit {0}

-- the bytes are a written line of a log with this goal or none, which may count or not, with its numbers in their
-- ranges; where all its names are known, its weights ascend
pub record IsWritten (P : Instance) (goal : Option ℕ) (counts : Bool) (bytes : List ℕ) (line : RawLine) : Type 0 where
  pub spelled : bytes ≡ line_text P line
  pub in_range : IsInRange P goal counts line
  pub ascends : IfSome (line_of P line) WeightsAscend

-- The kinds of lines that there are, as tables.

-- the most turns that a bound may speak of
abbrev pub most_turns : Instance → ℕ
most_turns P = LONGEST_WORD / cells P

abbrev pub split_kind : Instance → Kind RawLine
split_kind P = record {
  word = codes "split";
  fields = Place P.weeks P.days ∷ Name ∷ [];
  make = λ v. RawSplit v.0 v.1.0;
}

abbrev pub window_kind : Instance → Kind RawLine
window_kind P = record {
  word = codes "window";
  fields = Number 1 (length (rules P)) ∷ Place P.weeks P.days ∷ Number 1 LONGEST_WORD ∷ [];
  make = λ v. RawWindow v.0 v.1.0 v.1.1.0;
}

abbrev pub day_kind : Instance → Kind RawLine
day_kind P = record {
  word = codes "day";
  fields = Number 1 P.days ∷ Name ∷ Choice (codes "over") (codes "short") ∷ [];
  make = λ v. RawDay v.0 v.1.0 v.1.1.0;
}

abbrev pub dead_kind : Instance → Kind RawLine
dead_kind P = record {
  word = codes "dead";
  fields = Place P.weeks P.days ∷ Number 1 LONGEST_WORD ∷ Word (codes "rules") ∷ Rules (length (rules P)) ∷ [];
  make = λ v. RawDead v.0 v.1.0 v.1.1.0;
}

abbrev pub bound_kind : Instance → Kind RawLine
bound_kind P = record {
  word = codes "bound";
  fields =
      Place P.weeks P.days ∷ Number 1 (most_turns P) ∷ Word (codes "rules") ∷ Rules (length (rules P))
      ∷ Word (codes "weights") ∷ Weights P.days GREATEST_WEIGHT ∷ [];
  make = λ v. RawBound v.0 v.1.0 v.1.1.0 v.1.1.1.0;
}

abbrev pub open_kind : Kind RawLine
open_kind = record { word = codes "open"; fields = []; make = λ v. RawUnfinished }

abbrev pub few_kind : Kind RawLine
few_kind = record { word = codes "few"; fields = []; make = λ v. RawFew }

abbrev pub free_kind : Instance → Kind RawLine
free_kind P = record {
  word = codes "free";
  fields =
      Number 1 (most_turns P) ∷ Number 0 GREATEST_REWARD ∷ Word (codes "rules") ∷ Rules (length (rules P))
      ∷ Word (codes "weights") ∷ Weights P.days GREATEST_WEIGHT ∷ [];
  make = λ v. RawFree v.0 v.1.0 v.1.1.0 v.1.1.1.0;
}

abbrev pub blocks_kind : Kind RawLine
blocks_kind = record { word = codes "blocks"; fields = Name ∷ []; make = λ v. RawBlocks v.0 }

-- the kinds that a log may have which counts, and the last
abbrev pub last_kinds : Bool → List (Kind RawLine)
last_kinds false = open_kind ∷ []
last_kinds true = blocks_kind ∷ open_kind ∷ []

-- the kinds that logs without a goal have alone, or those with one, and the last
abbrev pub own_kinds : Instance → Option ℕ → Bool → List (Kind RawLine)
own_kinds P None counts = bound_kind P ∷ last_kinds counts
own_kinds P (Some goal) counts = few_kind ∷ free_kind P ∷ last_kinds counts

-- the lines of the tree of a log with this goal or none, which may count or not
abbrev pub line_kinds : Instance → Option ℕ → Bool → List (Kind RawLine)
line_kinds P goal counts = split_kind P ∷ window_kind P ∷ day_kind P ∷ dead_kind P ∷ own_kinds P goal counts

-- line 1, the version: of a log, which may have a turn and may count, or of a free log
abbrev pub log_version : ℕ → Version
log_version (suc zero) = Version1
log_version (suc (suc zero)) = Version2
log_version n = Version3

abbrev pub free_version : ℕ → Version
free_version (suc zero) = Free1
free_version n = Free2

abbrev pub version_kind : Kind Version
version_kind = record { word = codes "rwsp-log"; fields = Number 1 3 ∷ []; make = λ v. log_version v.0 }

abbrev pub free_version_kind : Kind Version
free_version_kind = record { word = codes "rwsp-free"; fields = Number 1 2 ∷ []; make = λ v. free_version v.0 }

abbrev pub fill_version_kind : Kind Version
fill_version_kind = record { word = codes "rwsp-fill"; fields = Number 1 1 ∷ []; make = λ v. Fill1 }

abbrev pub version_kinds : List (Kind Version)
version_kinds = version_kind ∷ free_version_kind ∷ fill_version_kind ∷ []

-- line 2, the rules
abbrev pub rules_kind : Instance → Kind (List ℕ)
rules_kind P = record { word = codes "rules"; fields = Rules (length (rules P)) ∷ []; make = λ v. v.0 }

-- line 3 where there is a turn: its name and its day
abbrev pub turn_kind : Instance → Kind (List ℕ × ℕ)
turn_kind P = record { word = codes "turn"; fields = Name ∷ Number 1 P.days ∷ []; make = λ v. (v.0, v.1.0) }

-- line 3 of a free log: its goal
abbrev pub goal_kind : Instance → Kind ℕ
goal_kind P = record { word = codes "goal"; fields = Number 0 (P.weeks + 1) ∷ []; make = λ v. v.0 }

-- line 3 of a fill log: its given cells
abbrev pub cells_kind : Instance → Kind (List NamedCell)
cells_kind P = record { word = codes "cells"; fields = Cells P.weeks P.days ∷ []; make = λ v. v.0 }

abbrev pub cells_kinds : Instance → List (Kind (List NamedCell))
cells_kinds P = cells_kind P ∷ []

abbrev pub goal_kinds : Instance → List (Kind ℕ)
goal_kinds P = goal_kind P ∷ []

abbrev pub rules_kinds : Instance → List (Kind (List ℕ))
rules_kinds P = rules_kind P ∷ []

abbrev pub turn_kinds : Instance → List (Kind (List ℕ × ℕ))
turn_kinds P = turn_kind P ∷ []

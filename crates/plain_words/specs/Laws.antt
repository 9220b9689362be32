-- What holds of the sentences about every problem, and of what is told of every log.
use Rattle.std.specs.Prelude.{◌≡◌, ◌↔◌, ◌≤◌, ℕ, List, [], ◌∷◌, filter, slice_get, Option, Some, Contains, Bool, true, false}
use Rattle.std.specs.List.{flat_map}
use Rattle.rwsp_terms.specs.Instance.{Instance, shift_count, IsSymbol, IsDay}
use Rattle.rwsp_terms.specs.Roster.{MeetsDay}
use Rattle.rwsp_terms.specs.declared.data.Symbol.{Symbol}
use Rattle.rwsp_terms.specs.declared.data.Rule.TheVariants.{Day}
use Rattle.refutation_terms.specs.declared.lines.Line.{Line}
use Rattle.refutation_terms.specs.declared.lines.Line.TheVariants.{Closing}
use Rattle.refutation_terms.specs.declared.lines.Leaf.TheVariants.{Blocks}
use Rattle.refutation_terms.specs.BlocksLeaf.{BlocksHold}
use Rattle.refutation_terms.specs.Log.{Log, LineFits, Cites}
use Rattle.rwsp_file.specs.declared.long_numbers.LongNumber.{LongNumber}
use Rattle.plain_words.specs.declared.reason.Rosters.{Rosters}
use Rattle.plain_words.specs.Sentences.{rule_statements, problem_statements}
use Rattle.plain_words.specs.Statements.{Statement, Named, OnlyTurn, Counted}
use Rattle.plain_words.specs.Told.{is_outside, first_outside}
use Rattle.plain_words.specs.LogTold.{day_number, cites_day, reason_statements}
use Rattle.plain_words.specs.declared.pieces.TheConstants.{COUNTING}

-- a statement that says a rule
abbrev pub says_rule : Statement → Bool
says_rule (Named n) = true
says_rule s = false

-- each rule is said once, in the order of their numbers
abbrev pub RulesAreSaidOnce : Type 0
RulesAreSaidOnce =
    (P : Instance) (names : List LongNumber) → filter says_rule (problem_statements P names) ≡ rule_statements P

-- what is counted of a symbol is said exactly where its leaf of blocks holds
abbrev pub CountedAreLeaves : Type 0
CountedAreLeaves =
    (P : Instance) (names : List LongNumber) (x : Symbol) → IsSymbol P x
    → Contains (problem_statements P names) (Counted [] x) ↔ BlocksHold P x

-- the rules that statements name, in order
abbrev pub rule_in : Statement → List ℕ
rule_in (Named k) = k ∷ []
rule_in (OnlyTurn k t) = k ∷ []
rule_in s = []

-- the rules in what is said of a refutation are those that the log names, in order, once each
abbrev pub NamedRulesAreSaid : Type 0
NamedRulesAreSaid =
    (P : Instance) (w : Rosters) (g : Log) → flat_map rule_in (reason_statements P w g) ≡ g.named

-- only the turn is told of the rule of its day exactly where no line rests on that rule
abbrev pub CitedDaysAreFound : Type 0
CitedDaysAreFound =
    (P : Instance) (goal : Option ℕ) (counts : Bool) (line : Line) (j : ℕ) → LineFits P goal counts line → IsDay P j
    → (cites_day (day_number P j) j line ≡ true) ↔ Cites P line (Day j)

-- what are said to be counted are leaves of the log, and hold
abbrev pub CountedAreLeavesOf : Type 0
CountedAreLeavesOf =
    (P : Instance) (w : Rosters) (g : Log) (x : Symbol)
    → IsSymbol P x → Contains (reason_statements P w g) (Counted COUNTING.now x)
    → ((k : ℕ) × (slice_get g.lines k ≡ Some (Closing (Blocks x)))) × BlocksHold P x

-- where a roster doesn't meet the demand of a day, a symbol is told of which there are too many or too few
abbrev pub BrokenDaysAreTold : Type 0
BrokenDaysAreTold =
    (P : Instance) (s : List Symbol) (j : ℕ) → (MeetsDay P j s → ⊥)
    → (x : ℕ) × (first_outside P s j ≡ Some x) × (x ≤ shift_count P) × (is_outside P s j x ≡ true)

-- What `roster` answers.
use Rattle.std.specs.Prelude.{◌≡◌, ◌⊎◌, ℕ, ◌≤◌, List, [], ◌∷◌, length, codes}
use Rattle.rwsp_terms.specs.declared.limits.TheConstants.{LONGEST_FILE}
use Rattle.rwsp_terms.specs.Instance.{Instance}
use Rattle.rwsp_terms.specs.Roster.{MeetsAll}
use Rattle.rwsp_terms.specs.declared.data.Symbol.{Symbol}
use Rattle.rwsp_model.specs.declared.roster.Roster.{Roster}
use Rattle.roster_print.specs.RosterText.{SpellsRoster, roster_text}
use Rattle.roster_checker.specs.FirstBroken.{IsFirstBroken}
use Rattle.crew_size.specs.Sizes.{with_weeks, IsSize}
use Rattle.crew_checker.specs.Least.{HasLeast}
use Rattle.plain_words.specs.Statements.{plain, told_lines}
use Rattle.plain_words.specs.declared.pieces.TheConstants.{NO_ROSTER_THERE}
use Rattle.commands.specs.Lines.{line}
use Rattle.commands.specs.ReadBest.{IsBestWith}
use Rattle.commands.specs.Verify.{IsBrokenRoster, broken_line, breach_statement}
use Rattle.commands.specs.declared.roster.Answer.{Answer}
use Rattle.commands.specs.declared.roster.Answer.TheVariants.{Shown, Breaks, NoRoster}

-- what is said of a roster with m weeks: its text where it meets every rule, else the first rule that it breaks
abbrev pub IsJudged : Instance → ℕ → Roster → Answer → Type 0
IsJudged P m s (Shown text) = MeetsAll (with_weeks P m) s.cells × (text ≡ roster_text (with_weeks P m) s.cells)
IsJudged P m s (Breaks weeks breach) =
    (weeks ≡ m) × (breach.roster ≡ s) × IsFirstBroken (with_weeks P m) s.cells breach.broken
IsJudged P m s NoRoster = ⊥

-- the bytes spell a roster, and are no longer than a roster's text may be
abbrev pub SpellsShort : Instance → List ℕ → List Symbol → Type 0
SpellsShort P bytes s = (length bytes ≤ LONGEST_FILE) × SpellsRoster P bytes s

-- they spell none
abbrev pub SpellsNone : Instance → List ℕ → Type 0
SpellsNone P bytes = (s : List Symbol) → SpellsShort P bytes s → ⊥

-- the roster, of m weeks, stands in the bytes: as a whole they are a roster's text, as `plan` prints one; or else, as
-- far as reading goes, an answer of `best` or of `staff` that has it
abbrev pub StandsIn : Instance → List ℕ → (m : ℕ) → List Symbol → Type 0
StandsIn P bytes m s =
    ((m ≡ P.weeks) × SpellsShort P bytes s)
    ⊎ (SpellsNone P bytes × (((m ≡ P.weeks) × IsBestWith P bytes s) ⊎ HasLeast P bytes m s))

-- this is said of the roster that stands in the bytes
abbrev pub SaysOf : Instance → List ℕ → Answer → Type 0
SaysOf P bytes answer =
    (m : ℕ) × (s : Roster) × (s.days ≡ P.days) × StandsIn P bytes m s.cells × IsJudged P m s answer

-- what an answer says of the bytes of an answer: of the roster that stands in them, or that none does
abbrev pub IsRosterAnswer : Instance → List ℕ → Answer → Type 0
IsRosterAnswer P bytes (Shown text) = SaysOf P bytes (Shown text)
IsRosterAnswer P bytes (Breaks weeks breach) = SaysOf P bytes (Breaks weeks breach)
IsRosterAnswer P bytes NoRoster = (m : ℕ) (s : List Symbol) → StandsIn P bytes m s → ⊥

-- what the answer names is the instance's
abbrev pub IsRosterAnswerOf : Instance → Answer → Type 0
IsRosterAnswerOf P (Breaks weeks breach) = IsSize P weeks × IsBrokenRoster (with_weeks P weeks) breach
IsRosterAnswerOf P answer = Unit {0}

abbrev pub roster_answer_text : Instance → Answer → List ℕ
roster_answer_text P (Shown text) = text
roster_answer_text P (Breaks weeks breach) = broken_line (with_weeks P weeks) breach
roster_answer_text P NoRoster = line (codes "no roster in the answer")

-- what is told of an answer
abbrev pub IsRosterTold : Instance → Answer → List ℕ → Type 0
IsRosterTold P (Shown roster) text = text ≡ []
IsRosterTold P (Breaks weeks breach) text =
    text ≡ told_lines (with_weeks P weeks) (breach_statement (with_weeks P weeks) breach ∷ [])
IsRosterTold P NoRoster text = text ≡ told_lines P (plain NO_ROSTER_THERE.now ∷ [])

abbrev pub roster_status : Answer → ℕ
roster_status (Shown text) = 0
roster_status (Breaks weeks breach) = 5
roster_status NoRoster = 5

-- What `ics` answers.
use Rattle.std.specs.Prelude.{◌≡◌, ℕ, ◌<◌, ◌≤◌, List, [], ◌∷◌, ◌++◌, codes}
use Rattle.std.specs.Fmt.{decimal}
use Rattle.rwsp_terms.specs.Instance.{Instance}
use Rattle.rwsp_terms.specs.Roster.{MeetsAll}
use Rattle.rwsp_terms.specs.declared.data.Symbol.{Symbol}
use Rattle.roster_print.specs.RosterText.{SpellsRoster}
use Rattle.crew_calendar.specs.Calendar.{Date}
use Rattle.crew_calendar.specs.Events.{AreEvents, HasDuty, HasNoDuty}
use Rattle.plain_words.specs.Statements.{Statement, plain, told_lines}
use Rattle.plain_words.specs.declared.pieces.TheConstants.{NO_DUTY}
use Rattle.commands.specs.Crew.{first_day_statements, no_employee_statement}
use Rattle.commands.specs.Lines.{line}
use Rattle.commands.specs.Verify.{SpellsRight, IsRosterFault, fault_line, IsFaultOf, fault_statement, fault_status}
use Rattle.commands.specs.declared.ics.Answer.{Answer}
use Rattle.commands.specs.declared.ics.Answer.TheVariants.{Shown, NoDuty, NoEmployee, Fails}

-- the bytes spell a roster that meets every rule, and this holds of it
abbrev pub SpellsRightWith : Instance → List ℕ → (List Symbol → Type 0) → Type 0
SpellsRightWith P bytes Q = (s : List Symbol) × SpellsRoster P bytes s × MeetsAll P s × Q s

-- the roster has a duty for the employee on some days, and the text is the calendar of his duties
abbrev pub HasEvents : Instance → Date → (days employee : ℕ) → List ℕ → List Symbol → Type 0
HasEvents P date days e text s = HasDuty P s days e × AreEvents P s date days e text

-- what an answer says of the bytes of a roster
abbrev pub IsIcsAnswer : Instance → List ℕ → Date → (days employee : ℕ) → Answer → Type 0
IsIcsAnswer P bytes date days e (Shown text from) =
    (from ≡ date) × (e ≤ P.weeks) × SpellsRightWith P bytes (HasEvents P date days e text)
IsIcsAnswer P bytes date days e NoDuty = (e ≤ P.weeks) × SpellsRightWith P bytes (λ s. HasNoDuty P s days e)
IsIcsAnswer P bytes date days e (NoEmployee number) = SpellsRight P bytes × (number ≡ e) × (P.weeks < e)
IsIcsAnswer P bytes date days e (Fails fault) = IsRosterFault P bytes fault

abbrev pub ics_text : Instance → Answer → List ℕ
ics_text P (Shown text date) = text
ics_text P NoDuty = line (codes "no duty")
ics_text P (NoEmployee e) = line (codes "no employee " ++ decimal e)
ics_text P (Fails fault) = fault_line P fault

-- what the answer names is the instance's
abbrev pub IsIcsAnswerOf : Instance → Answer → Type 0
IsIcsAnswerOf P (Fails fault) = IsFaultOf P fault
IsIcsAnswerOf P answer = Unit {0}

-- what is said of an answer
abbrev pub ics_statements : Instance → Answer → List Statement
ics_statements P (Shown calendar date) = first_day_statements P date
ics_statements P NoDuty = plain NO_DUTY.now ∷ []
ics_statements P (NoEmployee e) = no_employee_statement e ∷ []
ics_statements P (Fails fault) = fault_statement P fault ∷ []

-- what is told of it
abbrev pub IsIcsTold : Instance → Answer → List ℕ → Type 0
IsIcsTold P answer text = text ≡ told_lines P (ics_statements P answer)

abbrev pub ics_status : Answer → ℕ
ics_status (Shown text date) = 0
ics_status NoDuty = 3
ics_status (NoEmployee e) = 3
ics_status (Fails fault) = fault_status fault

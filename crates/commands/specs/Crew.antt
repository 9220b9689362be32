-- What `crew` answers.
use Rattle.std.specs.Prelude.{◌≡◌, ℕ, ◌<◌, ◌≤◌, List, [], ◌∷◌, ◌++◌, codes, ◌==◌, ◌&&◌, not, if◌then◌else◌}
use Rattle.std.specs.Fmt.{decimal}
use Rattle.std.specs.Str.{bytes_eq}
use Rattle.rwsp_terms.specs.Instance.{Instance}
use Rattle.rwsp_terms.specs.Roster.{MeetsAll}
use Rattle.rwsp_terms.specs.declared.data.Symbol.{Symbol}
use Rattle.rwsp_terms.specs.declared.limits.TheConstants.{DAYS_OF_WEEK}
use Rattle.roster_print.specs.RosterText.{SpellsRoster}
use Rattle.crew_calendar.specs.Calendar.{Date, date_text, weekday_text}
use Rattle.crew_calendar.specs.Texts.{IsTable, AreDuties}
use Rattle.crew_calendar.specs.Sheet.{IsSheet}
use Rattle.command_line.specs.declared.command.CrewLayout.{CrewLayout}
use Rattle.command_line.specs.declared.command.CrewLayout.TheVariants.{Table, Duties, Csv}
use Rattle.plain_words.specs.Statements.{Statement, Says, Headed, told_lines}
use Rattle.plain_words.specs.declared.pieces.TheConstants.{NO_EMPLOYEE, NO_MONDAY}
use Rattle.plain_words.specs.declared.part.Part.TheVariants.{Number}
use Rattle.commands.specs.Lines.{line}
use Rattle.commands.specs.Verify.{SpellsRight, IsRosterFault, fault_line, IsFaultOf, fault_statement, fault_status}
use Rattle.commands.specs.declared.crew.Answer.{Answer}
use Rattle.commands.specs.declared.crew.Answer.TheVariants.{Shown, NoEmployee, Fails}

-- the text is the calendar of a roster from a date on, for some days: of all employees, or the duties of one
abbrev pub IsCalendarFor : CrewLayout → Instance → List Symbol → Date → ℕ → List ℕ → Type 0
IsCalendarFor Table P s date days text = IsTable P s date days text
IsCalendarFor (Duties e) P s date days text = AreDuties P s date days e text
IsCalendarFor Csv P s date days text = IsSheet P s date days text

-- the text is such a calendar of the roster that the bytes spell, which meets every rule
abbrev pub IsCalendarOf : CrewLayout → Instance → List ℕ → Date → ℕ → List ℕ → Type 0
IsCalendarOf layout P bytes date days text =
    (s : List Symbol) × SpellsRoster P bytes s × MeetsAll P s × IsCalendarFor layout P s date days text

-- the instance has the employee, where one is asked for
abbrev pub HasEmployee : Instance → CrewLayout → Type 0
HasEmployee P (Duties e) = e ≤ P.weeks
HasEmployee P layout = Unit {0}

-- what an answer says of the bytes of a roster
abbrev pub IsCrewAnswer : Instance → List ℕ → Date → ℕ → CrewLayout → Answer → Type 0
IsCrewAnswer P bytes date days layout (Shown text from) =
    (from ≡ date) × HasEmployee P layout × IsCalendarOf layout P bytes date days text
IsCrewAnswer P bytes date days layout (NoEmployee e) = SpellsRight P bytes × (layout ≡ Duties e) × (P.weeks < e)
IsCrewAnswer P bytes date days layout (Fails fault) = IsRosterFault P bytes fault

abbrev pub crew_text : Instance → Answer → List ℕ
crew_text P (Shown text date) = text
crew_text P (NoEmployee e) = line (codes "no employee " ++ decimal e)
crew_text P (Fails fault) = fault_line P fault

-- what the answer names is the instance's
abbrev pub IsCrewAnswerOf : Instance → Answer → Type 0
IsCrewAnswerOf P (Fails fault) = IsFaultOf P fault
IsCrewAnswerOf P answer = Unit {0}

-- that weeks of seven days don't begin on a Monday, where the first date is none
abbrev pub first_day_statements : Instance → Date → List Statement
first_day_statements P date =
    if P.days == DAYS_OF_WEEK && not (bytes_eq (weekday_text date) (codes "Monday"))
    then Headed (date_text date) NO_MONDAY.now ∷ [] else []

-- that there is no employee with the number
abbrev pub no_employee_statement : ℕ → Statement
no_employee_statement e = Says NO_EMPLOYEE.now (Number e ∷ [])

-- what is said of an answer
abbrev pub crew_statements : Instance → Answer → List Statement
crew_statements P (Shown calendar date) = first_day_statements P date
crew_statements P (NoEmployee e) = no_employee_statement e ∷ []
crew_statements P (Fails fault) = fault_statement P fault ∷ []

-- what is told of it
abbrev pub IsCrewTold : Instance → Answer → List ℕ → Type 0
IsCrewTold P answer text = text ≡ told_lines P (crew_statements P answer)

abbrev pub crew_status : Answer → ℕ
crew_status (Shown text date) = 0
crew_status (NoEmployee e) = 3
crew_status (Fails fault) = fault_status fault

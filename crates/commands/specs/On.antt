-- What `on` answers.
use Rattle.std.specs.Prelude.{◌≡◌, ℕ, List, [], ◌∷◌}
use Rattle.rwsp_terms.specs.Instance.{Instance}
use Rattle.crew_calendar.specs.Calendar.{Date}
use Rattle.crew_calendar.specs.OnDate.{IsOn}
use Rattle.plain_words.specs.Statements.{Statement, told_lines}
use Rattle.commands.specs.Ics.{SpellsRightWith}
use Rattle.commands.specs.Verify.{IsRosterFault, fault_line, IsFaultOf, fault_statement, fault_status}
use Rattle.commands.specs.declared.on.Answer.{Answer}
use Rattle.commands.specs.declared.on.Answer.TheVariants.{Shown, Fails}

-- what an answer says of the bytes of a roster whose first day was the start
abbrev pub IsOnAnswer : Instance → List ℕ → (start date : Date) → Answer → Type 0
IsOnAnswer P bytes start date (Shown text) = SpellsRightWith P bytes (λ s. IsOn P s start date text)
IsOnAnswer P bytes start date (Fails fault) = IsRosterFault P bytes fault

abbrev pub on_text : Instance → Answer → List ℕ
on_text P (Shown text) = text
on_text P (Fails fault) = fault_line P fault

-- what the answer names is the instance's
abbrev pub IsOnAnswerOf : Instance → Answer → Type 0
IsOnAnswerOf P (Shown text) = Unit {0}
IsOnAnswerOf P (Fails fault) = IsFaultOf P fault

-- what is said of an answer
abbrev pub on_statements : Instance → Answer → List Statement
on_statements P (Shown shown) = []
on_statements P (Fails fault) = fault_statement P fault ∷ []

-- what is told of it
abbrev pub IsOnTold : Instance → Answer → List ℕ → Type 0
IsOnTold P answer text = text ≡ told_lines P (on_statements P answer)

abbrev pub on_status : Answer → ℕ
on_status (Shown text) = 0
on_status (Fails fault) = fault_status fault

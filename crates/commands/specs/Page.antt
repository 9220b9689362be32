-- What `page` answers.
use Rattle.std.specs.Prelude.{◌≡◌, ℕ, List, [], ◌∷◌}
use Rattle.rwsp_terms.specs.Instance.{Instance}
use Rattle.rwsp_terms.specs.Roster.{MeetsAll}
use Rattle.rwsp_terms.specs.declared.data.Symbol.{Symbol}
use Rattle.roster_print.specs.RosterText.{SpellsRoster}
use Rattle.roster_page.specs.PageText.{IsPage}
use Rattle.plain_words.specs.Statements.{Statement, told_lines}
use Rattle.commands.specs.Verify.{IsRosterFault, fault_line, IsFaultOf, fault_statement, fault_status}
use Rattle.commands.specs.declared.page.Answer.{Answer}
use Rattle.commands.specs.declared.page.Answer.TheVariants.{Shown, Fails}

-- the text is the page of the roster that the bytes spell, which meets every rule
abbrev pub IsPageOf : Instance → List ℕ → List ℕ → Type 0
IsPageOf P bytes text = (s : List Symbol) × SpellsRoster P bytes s × MeetsAll P s × IsPage P s text

-- what an answer says of the bytes of a roster
abbrev pub IsPageAnswer : Instance → List ℕ → Answer → Type 0
IsPageAnswer P bytes (Shown text) = IsPageOf P bytes text
IsPageAnswer P bytes (Fails fault) = IsRosterFault P bytes fault

abbrev pub page_answer_text : Instance → Answer → List ℕ
page_answer_text P (Shown text) = text
page_answer_text P (Fails fault) = fault_line P fault

-- what the answer names is the instance's
abbrev pub IsPageAnswerOf : Instance → Answer → Type 0
IsPageAnswerOf P (Shown text) = Unit {0}
IsPageAnswerOf P (Fails fault) = IsFaultOf P fault

-- what is said of an answer
abbrev pub page_statements : Instance → Answer → List Statement
page_statements P (Shown page) = []
page_statements P (Fails fault) = fault_statement P fault ∷ []

-- what is told of it
abbrev pub IsPageTold : Instance → Answer → List ℕ → Type 0
IsPageTold P answer text = text ≡ told_lines P (page_statements P answer)

abbrev pub page_status : Answer → ℕ
page_status (Shown text) = 0
page_status (Fails fault) = fault_status fault

-- What `fill` answers.
use Rattle.std.specs.Prelude.{◌≡◌, ℕ, List, [], ◌∷◌, Some}
use Rattle.rwsp_terms.specs.Instance.{Instance}
use Rattle.refutation_terms.specs.declared.cells.GivenCell.{GivenCell}
use Rattle.refutation_log.specs.Filled.{IsCountedFirst, IsFilledWith}
use Rattle.refutation_log.specs.CellsText.{SpellsGiven, refusal_of_cells}
use Rattle.refutation_log.specs.declared.found.Found.{Found}
use Rattle.refutation_log.specs.declared.found.Found.TheVariants.{Roster, NoRoster, Undecided}
use Rattle.plain_words.specs.Statements.{Statement, told_lines}
use Rattle.plain_words.specs.Told.{roster_refusal_statement}
use Rattle.plain_words.specs.declared.pieces.TheConstants.{BUDGET_SPENT, NONE_WITH_CELLS}
use Rattle.commands.specs.Plan.{IsPlanOf, PlansAgree, plan_text, plan_status}
use Rattle.commands.specs.Told.{said_behind}
use Rattle.commands.specs.Verify.{fault_line}
use Rattle.commands.specs.declared.verify.RosterFault.TheVariants as Faults
use Rattle.commands.specs.declared.fill.Answer.{Answer}
use Rattle.commands.specs.declared.fill.Answer.TheVariants as Answers
use Rattle.commands.specs.declared.fill.Answer.TheVariants.{Refused}

-- what an answer says of the bytes of given cells: what is found behind the cells that they give, where blocks are
-- counted first; or why they give none
abbrev pub IsFillAnswer : Instance → List ℕ → ℕ → Answer → Type 0
IsFillAnswer P bytes budget (Answers.Found found) =
    (given : List GivenCell) × SpellsGiven P bytes given × IsFilledWith P given budget found × IsCountedFirst P found
IsFillAnswer P bytes budget (Refused why) = refusal_of_cells P bytes ≡ Some why

-- given cells are refused as a roster is
abbrev pub fill_answer_text : Instance → Answer → List ℕ
fill_answer_text P (Answers.Found found) = plan_text P found
fill_answer_text P (Refused why) = fault_line P (Faults.Refused why)

-- what the answer names is the instance's
abbrev pub IsFillAnswerOf : Instance → Answer → Type 0
IsFillAnswerOf P (Answers.Found found) = IsPlanOf P found
IsFillAnswerOf P (Refused why) = Unit {0}

-- which statements are told of what was found
abbrev pub filled_statements : Instance → Found → List Statement
filled_statements P (Roster s) = []
filled_statements P (NoRoster g) = said_behind P NONE_WITH_CELLS.now g
filled_statements P (Undecided g) = said_behind P BUDGET_SPENT.now g

-- and of an answer
abbrev pub fill_statements : Instance → Answer → List Statement
fill_statements P (Answers.Found found) = filled_statements P found
fill_statements P (Refused why) = roster_refusal_statement why ∷ []

-- what is told of an answer
abbrev pub IsFillTold : Instance → Answer → List ℕ → Type 0
IsFillTold P answer text = text ≡ told_lines P (fill_statements P answer)

abbrev pub fill_status : Answer → ℕ
fill_status (Answers.Found found) = plan_status found
fill_status (Refused why) = 3

-- two answers that may both fit
abbrev pub FillsAgree : Answer → Answer → Type 0
FillsAgree (Answers.Found a) (Answers.Found b) = PlansAgree a b
FillsAgree (Refused why) (Refused other) = why ≡ other
FillsAgree a b = ⊥

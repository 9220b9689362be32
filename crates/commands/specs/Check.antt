-- What `check`, `check-free` and `check-fill` answer.
use Rattle.std.specs.Prelude.{◌≡◌, ℕ, List, [], ◌∷◌, ◌++◌, codes, Option, Some, None}
use Rattle.std.specs.List.{flat_map}
use Rattle.std.specs.Fmt.{decimal}
use Rattle.rwsp_terms.specs.Instance.{Instance}
use Rattle.rwsp_terms.specs.Rules.{Meets as MeetsRules}
use Rattle.rwsp_terms.specs.declared.data.Symbol.{Symbol}
use Rattle.refutation_terms.specs.declared.lines.LogKind.{LogKind}
use Rattle.refutation_terms.specs.declared.lines.Opening.{Opening}
use Rattle.refutation_terms.specs.declared.lines.Opening.TheVariants.{Given}
use Rattle.refutation_terms.specs.Log.{OpeningFits, HoldsOpening}
use Rattle.refutation_terms.specs.Laws.{HasGoal}
use Rattle.refutation_terms.specs.LogText.{cells_text}
use Rattle.refutation_terms.specs.Verdict.{IsRefused}
use Rattle.refutation_checker.specs.Accepted.{IsPassedText}
use Rattle.refutation_checker.specs.declared.verdict.PassedLog.{PassedLog}
use Rattle.plain_words.specs.Statements.{Statement, told_lines}
use Rattle.plain_words.specs.LogTold.{accepted_statements}
use Rattle.plain_words.specs.Told.{log_refusal_statement}
use Rattle.commands.specs.Lines.{line}
use Rattle.refutation_log.specs.RefusalText.{log_refusal_text, HasSymbols}
use Rattle.commands.specs.declared.check.Answer.{Answer}
use Rattle.commands.specs.declared.check.Answer.TheVariants.{Accepted, Refused}

-- no roster meets the rules, holds the given cells if there are any, and with a goal has as many free weekends
abbrev pub LeavesNoRoster : Instance → PassedLog → Type 0
LeavesNoRoster P passed =
    (s : List Symbol) → MeetsRules P passed.named s → HasGoal passed.goal s → HoldsOpening passed.opening s → ⊥

-- what an answer says of the bytes of a log of a kind: accepted are the rules, the goal and the given cells, where the
-- kind has these, that the header of a log names which passes, and they leave no roster
abbrev pub IsChecked : Instance → LogKind → List ℕ → Answer → Type 0
IsChecked P kind bytes (Accepted passed) = IsPassedText P kind bytes passed × LeavesNoRoster P passed
IsChecked P kind bytes (Refused why) = IsRefused P kind bytes why

-- the numbers of the rules, each behind a blank
abbrev pub rules_text : List ℕ → List ℕ
rules_text R = flat_map (λ k. 32 ∷ decimal k) R

-- the goal, if there is one, and the word before the rules
abbrev pub accepted_words : Option ℕ → List ℕ
accepted_words None = codes "accepted: rules"
accepted_words (Some goal) = codes "accepted: goal " ++ decimal goal ++ codes " rules"

-- the given cells, if there are any, as in the header of a log; and the end of the line
abbrev pub accepted_end : Instance → Opening → List ℕ
accepted_end P (Given given) = 32 ∷ cells_text P given
accepted_end P o = 10 ∷ []

abbrev pub accepted_text : Instance → PassedLog → List ℕ
accepted_text P passed = accepted_words passed.goal ++ rules_text passed.named ++ accepted_end P passed.opening

abbrev pub check_text : Instance → Answer → List ℕ
check_text P (Accepted passed) = accepted_text P passed
check_text P (Refused why) = line (log_refusal_text P why)

-- what the answer names is the instance's
abbrev pub IsCheckedOf : Instance → Answer → Type 0
IsCheckedOf P (Accepted passed) = OpeningFits P passed.opening
IsCheckedOf P (Refused why) = HasSymbols P why

-- what the statements about an answer are
abbrev pub check_statements : Instance → Answer → List Statement
check_statements P (Accepted passed) = accepted_statements P passed.opening passed.goal passed.named
check_statements P (Refused why) = log_refusal_statement why ∷ []

-- what is told of an answer
abbrev pub IsCheckTold : Instance → Answer → List ℕ → Type 0
IsCheckTold P answer text = text ≡ told_lines P (check_statements P answer)

abbrev pub check_status : Answer → ℕ
check_status (Accepted passed) = 0
check_status (Refused why) = 5

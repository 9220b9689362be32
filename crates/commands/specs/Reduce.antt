-- What `reduce` answers.
use Rattle.std.specs.Prelude.{◌≡◌, ℕ, List, [], ◌∷◌}
use Rattle.rwsp_terms.specs.Instance.{Instance}
use Rattle.refutation_terms.specs.declared.lines.LogKind.TheVariants.{WithoutGoal}
use Rattle.refutation_terms.specs.Log.{Log, Fits, Passes}
use Rattle.refutation_terms.specs.LogText.{log_text}
use Rattle.refutation_terms.specs.Strip.{IsReduced, NeedsEachRule}
use Rattle.refutation_terms.specs.Verdict.{IsAccepted, IsRefused}
use Rattle.refutation_log.specs.Needs.{NeedsTogether}
use Rattle.plain_words.specs.Statements.{told_lines}
use Rattle.plain_words.specs.LogTold.{log_statements}
use Rattle.plain_words.specs.Told.{log_refusal_statement}
use Rattle.plain_words.specs.declared.reason.Rosters.TheVariants.{Every}
use Rattle.commands.specs.Lines.{line}
use Rattle.refutation_log.specs.RefusalText.{log_refusal_text, HasSymbols}
use Rattle.commands.specs.declared.reduce.Answer.{Answer}
use Rattle.commands.specs.declared.reduce.Answer.TheVariants.{Reduced, Refused}

-- a log that passes, and can't do without any rule that it names, nor without several window rules
pub record IsSparing (P : Instance) (g : Log) : Type 0 where
  pub passes : Passes P g
  pub each : NeedsEachRule P g
  pub together : NeedsTogether P g

-- what an answer says of the bytes of a log without a goal: reduced is the log that passes
abbrev pub IsReduction : Instance → List ℕ → Answer → Type 0
IsReduction P bytes (Reduced h) = ((g : Log) × IsAccepted P WithoutGoal bytes g × IsReduced P g h) × IsSparing P h
IsReduction P bytes (Refused why) = IsRefused P WithoutGoal bytes why

abbrev pub reduce_text : Instance → Answer → List ℕ
reduce_text P (Reduced g) = log_text P g
reduce_text P (Refused why) = line (log_refusal_text P why)

-- what the answer names is the instance's
abbrev pub IsReductionOf : Instance → Answer → Type 0
IsReductionOf P (Reduced g) = Fits P g
IsReductionOf P (Refused why) = HasSymbols P why

-- what is told of an answer
abbrev pub IsReduceTold : Instance → Answer → List ℕ → Type 0
IsReduceTold P (Reduced g) text = text ≡ told_lines P (log_statements P Every g)
IsReduceTold P (Refused why) text = text ≡ told_lines P (log_refusal_statement why ∷ [])

abbrev pub reduce_status : Answer → ℕ
reduce_status (Reduced g) = 0
reduce_status (Refused why) = 5

-- The status of each outcome.
use Rattle.std.specs.Prelude.{ℕ}
use Rattle.commands.specs.declared.stop.Stop.{Stop}
use Rattle.commands.specs.declared.stop.Stop.TheVariants.{ReadFault, Memory}
use Rattle.commands.specs.Explain.{explain_status}
use Rattle.rwsp_run.specs.Commands.{job_status}
use Rattle.rwsp_run.specs.declared.answer.Refusal.{Refusal}
use Rattle.rwsp_run.specs.declared.answer.Refusal.TheVariants.{Usage}
use Rattle.rwsp_run.specs.declared.answer.Answer.{Answer}
use Rattle.rwsp_run.specs.declared.answer.Answer.TheVariants.{Refused, Trial, Job, Explained}
use Rattle.rwsp_run.specs.declared.answer.Outcome.{Outcome}
use Rattle.rwsp_run.specs.declared.answer.Outcome.TheVariants.{Done, WriteFault, Stopped}

abbrev pub refusal_status : Refusal → ℕ
refusal_status Usage = 2
refusal_status why = 3

abbrev pub status_of_answer : Answer → ℕ
status_of_answer (Refused why) = refusal_status why
status_of_answer (Trial trial) = 0
status_of_answer (Explained words) = explain_status words
status_of_answer (Job answer) = job_status answer

abbrev pub status_of_stop : Stop → ℕ
status_of_stop ReadFault = 6
status_of_stop Memory = 8

-- what the program ends with
abbrev pub status_of : Outcome → ℕ
status_of (Done answer) = status_of_answer answer
status_of (WriteFault answer) = 7
status_of (Stopped stop) = status_of_stop stop

-- The texts of the answers.
use Rattle.std.specs.Prelude.{◌≡◌, ℕ, ◌≤◌, List, length, take, codes, Option}
use Rattle.std.specs.Io.KnownBytes.{Appends}
use Rattle.rwsp_io.specs.Told.{Told, Silent}
use Rattle.rwsp_terms.specs.Instance.{Instance}
use Rattle.command_line.specs.Commands.{CommandWords, usage_text, file_of}
use Rattle.command_line.specs.declared.command.Command.{Command}
use Rattle.commands.specs.Lines.{line, not_weekly_line}
use Rattle.commands.specs.Files.{too_long_line}
use Rattle.commands.specs.ProblemFile.{IsProblemOf, problem_refusal_line}
use Rattle.commands.specs.Trial.{IsTrialText}
use Rattle.commands.specs.Explain.{explain_text}
use Rattle.rwsp_run.specs.Commands.{job_text, IsPrintable}
use Rattle.rwsp_run.specs.Answers.{IsAsked}
use Rattle.rwsp_run.specs.declared.answer.Refusal.{Refusal}
use Rattle.rwsp_run.specs.declared.answer.Refusal.TheVariants.{Usage, Horizon, Problem, Unfit as UnfitFor, TooLong}
use Rattle.rwsp_run.specs.declared.answer.Unfit.{Unfit}
use Rattle.rwsp_run.specs.declared.answer.Unfit.TheVariants.{NotWeekly, OpenWordTaken}
use Rattle.rwsp_run.specs.declared.answer.Answer.{Answer}
use Rattle.rwsp_run.specs.declared.answer.Answer.TheVariants.{Refused, Trial, Job, Explained}

-- the line of a problem that isn't one for the command
abbrev pub unfit_line : Unfit → List ℕ
unfit_line (NotWeekly days) = not_weekly_line days
unfit_line OpenWordTaken = line (codes "fill refused: name ?")

-- the line of a refusal, which is the same for every problem
abbrev pub refusal_line : Refusal → List ℕ
refusal_line Usage = line usage_text
refusal_line Horizon = line (codes "horizon refused")
refusal_line (Problem why) = problem_refusal_line why
refusal_line (UnfitFor why) = unfit_line why
refusal_line (TooLong kind) = too_long_line kind

-- the text is the answer's, for the problem that a file spells, or for that of a trial
abbrev pub IsTextFor : Told → Answer → List ℕ → Type 0
IsTextFor told (Refused why) text = text ≡ refusal_line why
IsTextFor told (Trial trial) text = IsTrialText trial text
IsTextFor told (Explained words) text = text ≡ explain_text words
IsTextFor told (Job answer) text =
    (P : Instance) × IsProblemOf told P × IsPrintable P answer × (text ≡ job_text P answer)

-- the same for the problem's file of the command that the words ask for; of a refusal, a trial or
-- an explanation, which holds its own, it depends on no file
abbrev pub IsTextOf : (List ℕ → Told) → CommandWords → Answer → List ℕ → Type 0
IsTextOf held words (Job answer) text =
    (command : Command) × IsAsked words command × IsTextFor (held (file_of command)) (Job answer) text
IsTextOf held words answer text = IsTextFor Silent answer text

-- a prefix of the text was put, where the bytes are known
abbrev pub AppendsPrefix : (before now : Option (List ℕ)) → List ℕ → Type 0
AppendsPrefix before now text = (n : ℕ) × (n ≤ length text) × Appends before now (take n text)

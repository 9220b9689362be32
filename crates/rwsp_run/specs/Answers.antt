-- What each answer says.
use Rattle.std.specs.Prelude.{◌≡◌, ◌⊎◌, ℕ, List, Option, Some, None}
use Rattle.rwsp_io.specs.Told.{Told, Rose}
use Rattle.rwsp_terms.specs.Instance.{Instance}
use Rattle.rwsp_file.specs.Spelling.{SpellsProblem}
use Rattle.command_line.specs.Commands.{CommandWords, IsForm, HasNoForm, ReadsProblem, IsWithinHorizon, file_of, second_of}
use Rattle.command_line.specs.declared.command.Command.{Command}
use Rattle.command_line.specs.declared.command.Command.TheVariants as Commands
use Rattle.command_line.specs.declared.command.Command.TheVariants.{OnProblem, OnFiles, Explain}
use Rattle.commands.specs.Files.{WhereTold, Holds, IsTooLong, IsSecond}
use Rattle.commands.specs.ProblemFile.{IsProblemOf, IsProblemRefusal, IsShortFile, IsLongFile}
use Rattle.commands.specs.Explain.{IsRefusalOf, problem_explanation}
use Rattle.commands.specs.Trial.{IsTrial}
use Rattle.commands.specs.declared.problem_file.ProblemRefusal.{ProblemRefusal}
use Rattle.commands.specs.declared.problem_file.ProblemRefusal.TheVariants as ProblemRefusals
use Rattle.commands.specs.declared.second_file.SecondKind.{SecondKind}
use Rattle.commands.specs.declared.explain.Answer.{Answer as Explanation}
use Rattle.rwsp_run.specs.Commands.{IsProblemAnswer, IsFilesAnswer, second_kind, unfit_for, Suits, SuitsFilesTask}
use Rattle.rwsp_run.specs.declared.jobs.JobAnswer.{JobAnswer}
use Rattle.rwsp_run.specs.declared.answer.Refusal.TheVariants.{Usage, Horizon, Problem, Unfit, TooLong}
use Rattle.rwsp_run.specs.declared.answer.Answer.{Answer}
use Rattle.rwsp_run.specs.declared.answer.Answer.TheVariants.{Refused, Trial, Job, Explained}

-- the command reads a second file of the kind, which is too long
abbrev pub IsTooLongFor : Command → Told → SecondKind → Type 0
IsTooLongFor (OnFiles file second task) told kind = (kind ≡ second_kind task) × WhereTold told (IsTooLong kind)
IsTooLongFor command told kind = ⊥

-- the answer of a job on the problem, and on the second file where the command reads one
abbrev pub IsJobAnswer : Command → Told → Instance → JobAnswer → Type 0
IsJobAnswer (OnProblem file task) told P answer = IsProblemAnswer task P answer
IsJobAnswer (OnFiles file second task) told P answer =
    (bytes : List ℕ) × IsSecond (second_kind task) told bytes × IsFilesAnswer task P bytes answer
IsJobAnswer command told P answer = ⊥

-- what `explain` says of the problem by the bytes that spell it
abbrev pub IsExplanation : Command → Told → Instance → Explanation → Type 0
IsExplanation (Explain file) told P words =
    (bytes : List ℕ) × Holds told bytes × SpellsProblem bytes P × (words ≡ problem_explanation P bytes)
IsExplanation command told P words = ⊥

-- what the answer to a command says of the problem that the first file spells, and of what the second file tells: the
-- problem isn't one for the command, or the second file is too long, or the job was done
abbrev pub IsAnswerOn : Command → Told → Instance → Answer → Type 0
IsAnswerOn command told P (Refused (Unfit why)) = unfit_for command P ≡ Some why
IsAnswerOn command told P (Refused (TooLong kind)) = Suits command P × IsTooLongFor command told kind
IsAnswerOn command told P (Job answer) = Suits command P × IsJobAnswer command told P answer
IsAnswerOn command told P (Explained words) = Suits command P × IsExplanation command told P words
IsAnswerOn command told P answer = ⊥

-- the words ask for a command that reads a problem's file
abbrev pub IsAsked : CommandWords → Command → Type 0
IsAsked words command = IsForm words command × IsWithinHorizon command × ReadsProblem command

-- the words say why the problem's file, which isn't too long, spells no problem
abbrev pub IsRefusalExplained : Told → Explanation → Type 0
IsRefusalExplained told words = (file : List ℕ) × Holds told file × IsShortFile file × IsRefusalOf file words

-- what `explain` says of a refusal: words, but of a file that is too long
abbrev pub IsSaidOfRefusal : ProblemRefusal → Option Explanation → Type 0
IsSaidOfRefusal ProblemRefusals.TooLong words = words ≡ None
IsSaidOfRefusal (ProblemRefusals.Refused why bytes) (Some words) = IsRefusalOf bytes words
IsSaidOfRefusal (ProblemRefusals.Refused why bytes) None = ⊥

-- the problem's file spells a problem, and this is said of it
abbrev pub IsProblemExplained : Command → (List ℕ → Told) → Explanation → Type 0
IsProblemExplained command held words =
    (P : Instance) × IsProblemOf (held (file_of command)) P × IsExplanation command (held (second_of command)) P words

-- the answer to a command: a trial; or the problem's file spells no problem, of which `explain` says why in words; or it
-- spells one, and this is an answer on it
abbrev pub IsAnswerTo : Command → (List ℕ → Told) → Answer → Type 0
IsAnswerTo (Commands.Trial number weeks) held (Trial trial) = IsTrial number weeks trial
IsAnswerTo (Commands.Trial number weeks) held answer = ⊥
IsAnswerTo (Explain file) held (Refused (Problem why)) =
    (why ≡ ProblemRefusals.TooLong) × WhereTold (held file) IsLongFile
IsAnswerTo (Explain file) held (Explained words) =
    IsRefusalExplained (held file) words ⊎ IsProblemExplained (Explain file) held words
IsAnswerTo command held (Refused (Problem why)) =
    WhereTold (held (file_of command)) (λ file. IsProblemRefusal file why)
IsAnswerTo command held answer =
    (P : Instance) × IsProblemOf (held (file_of command)) P
    × IsAnswerOn command (held (second_of command)) P answer

-- what holds where an answer comes: the words are no command, or one with a calendar past the horizon, or this answers
-- it
abbrev pub IsAnswer : (List ℕ → Told) → CommandWords → Answer → Type 0
IsAnswer held words (Refused Usage) = HasNoForm words
IsAnswer held words (Refused Horizon) = (command : Command) × IsForm words command × (IsWithinHorizon command → ⊥)
IsAnswer held words answer =
    (command : Command) × IsForm words command × IsWithinHorizon command × IsAnswerTo command held answer

-- the second file could not be read, and the first spells a problem for the task
abbrev pub IsSecondFault : (List ℕ → Told) → (before now : List ℕ → ℕ) → Command → Type 0
IsSecondFault held before now (OnFiles file second task) =
    Rose (before second) (now second) × ((P : Instance) × IsProblemOf (held file) P × SuitsFilesTask task P)
IsSecondFault held before now command = ⊥

-- a file of the command could not be read: the count of the problem's file has risen, or that of the second file
abbrev pub IsFileFault : (List ℕ → Told) → (before now : List ℕ → ℕ) → Command → Type 0
IsFileFault held before now command =
    Rose (before (file_of command)) (now (file_of command)) ⊎ IsSecondFault held before now command

-- a file that the words ask for could not be read
abbrev pub IsReadFault : (List ℕ → Told) → (before now : List ℕ → ℕ) → CommandWords → Type 0
IsReadFault held before now words = (command : Command) × IsAsked words command × IsFileFault held before now command

-- What is told in words of each answer.
use Rattle.std.specs.Prelude.{◌≡◌, ◌⊎◌, ℕ, List, [], ◌++◌, Option, Some, None}
use Rattle.std.specs.Fmt.{decimal}
use Rattle.std.specs.Io.KnownBytes.{Appends, Keeps}
use Rattle.rwsp_io.specs.Told.{Told, Silent}
use Rattle.rwsp_file.specs.LongNumbers.{long_numbers}
use Rattle.plain_words.specs.Sentences.{slip_lines}
use Rattle.plain_words.specs.declared.problem.Telling.{Telling}
use Rattle.plain_words.specs.declared.pieces.TheConstants.{HORIZON, NOT_WEEKLY, OPEN_WORD}
use Rattle.command_line.specs.Commands.{CommandWords, file_of}
use Rattle.command_line.specs.declared.command.Command.{Command}
use Rattle.commands.specs.Lines.{line}
use Rattle.commands.specs.Told.{behind_rwsp}
use Rattle.commands.specs.ProblemFile.{IsShortFile, IsSubject, IsRefusedFile, IsProblemRefusalTold}
use Rattle.commands.specs.declared.problem_file.Subject.{Subject}
use Rattle.rwsp_run.specs.Commands.{IsJobTold, IsPrintable, slips_behind}
use Rattle.rwsp_run.specs.Texts.{AppendsPrefix}
use Rattle.rwsp_run.specs.Answers.{IsAsked}
use Rattle.rwsp_run.specs.declared.answer.Refusal.{Refusal}
use Rattle.rwsp_run.specs.declared.answer.Refusal.TheVariants.{Horizon, Problem, Unfit as UnfitFor}
use Rattle.rwsp_run.specs.declared.answer.Unfit.TheVariants.{NotWeekly, OpenWordTaken}
use Rattle.rwsp_run.specs.declared.answer.Answer.{Answer}
use Rattle.rwsp_run.specs.declared.answer.Answer.TheVariants.{Refused, Job}

-- the line that says in words why a task isn't begun, but of a file that is refused; none where the answer itself does
abbrev pub refusal_words : Refusal → List ℕ
refusal_words Horizon = line HORIZON.now
refusal_words (UnfitFor (NotWeekly days)) = line (NOT_WEEKLY.now ++ decimal days)
refusal_words (UnfitFor OpenWordTaken) = line OPEN_WORD.now
refusal_words why = []

-- what is told of a refusal; of a file the words of `explain`
abbrev pub IsRefusalTold : Refusal → List ℕ → Type 0
IsRefusalTold (Problem why) text = IsProblemRefusalTold why text
IsRefusalTold why text = text ≡ behind_rwsp (refusal_words why)

-- the sentences about a problem, of which some are told
abbrev pub slips_told : Subject → Option Telling → List ℕ
slips_told subject None = []
slips_told subject (Some telling) = slip_lines telling subject.problem (long_numbers subject.file)

-- what is told of an answer; of that of a job its words, and behind them what looks like a slip in the problem's file
abbrev pub IsToldBy : Answer → Option Subject → List ℕ → Type 0
IsToldBy (Refused why) subject text = IsRefusalTold why text
IsToldBy (Job answer) None text = ⊥
IsToldBy (Job answer) (Some subject) text =
    (words : List ℕ) × IsJobTold subject.problem answer words
    × (text ≡ words ++ slips_told subject (slips_behind answer))
IsToldBy answer subject text = text ≡ []

-- the words on an answer can be made
abbrev pub IsTellable : Answer → Option Subject → Type 0
IsTellable (Refused (Problem why)) subject = IsRefusedFile why
IsTellable (Job answer) None = ⊥
IsTellable (Job answer) (Some subject) = IsShortFile subject.file × IsPrintable subject.problem answer
IsTellable answer subject = Unit {0}

-- what a job's answer speaks of, by what a file tells
abbrev pub IsSubjectFor : Told → Answer → Option Subject → Type 0
IsSubjectFor told (Job answer) (Some subject) = IsSubject told subject × IsTellable (Job answer) (Some subject)
IsSubjectFor told answer subject = IsTellable answer subject

-- the same of the problem's file of the command that the words ask for; answers that are no job's speak of none
abbrev pub IsSubjectOf : (List ℕ → Told) → CommandWords → Answer → Option Subject → Type 0
IsSubjectOf held words (Job answer) subject =
    (command : Command) × IsAsked words command × IsSubjectFor (held (file_of command)) (Job answer) subject
IsSubjectOf held words answer subject = IsSubjectFor Silent answer subject

-- the text tells what the answer means
abbrev pub IsToldOf : (List ℕ → Told) → CommandWords → Answer → List ℕ → Type 0
IsToldOf held words answer text =
    (subject : Option Subject) × IsSubjectOf held words answer subject × IsToldBy answer subject text

-- of such a text all was put, or a prefix where a put failed; or nothing, where there was no memory for it
abbrev pub WasPut : (List ℕ → Type 0) → (before now : Option (List ℕ)) → Type 0 → Type 0
WasPut IsText before now failed =
    Keeps before now
    ⊎ ((text : List ℕ) × IsText text × (Appends before now text ⊎ (failed × AppendsPrefix before now text)))

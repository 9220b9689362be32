-- What answers fit a command line over files whose bytes are known.
use Rattle.std.specs.Prelude.{◌≡◌, ◌≢◌, ◌⊎◌, ◌↔◌, ℕ, ◌+◌, ◌≤◌, Bool, List, Some, None, Contains}
use Rattle.std.specs.List.{flat_map}
use Rattle.rwsp_terms.specs.declared.limits.TheConstants.{MOST_WEEKS}
use Rattle.rwsp_io.specs.Told.{Told, Silent, Bytes}
use Rattle.rwsp_terms.specs.Instance.{Instance}
use Rattle.rwsp_terms.specs.Roster.{MeetsAll}
use Rattle.rwsp_terms.specs.declared.data.Symbol.{Symbol}
use Rattle.rwsp_model.specs.declared.roster.Roster.{Roster}
use Rattle.rwsp_file.specs.Spelling.{SpellsProblem}
use Rattle.rwsp_file.specs.Reading.{file_refusal}
use Rattle.rwsp_file.specs.declared.refusal.FileRefusal.{FileRefusal}
use Rattle.refutation_terms.specs.Log.{Log}
use Rattle.refutation_terms.specs.LogText.{log_text}
use Rattle.refutation_terms.specs.Verdict.{IsAccepted}
use Rattle.refutation_terms.specs.declared.lines.LogKind.{LogKind}
use Rattle.refutation_terms.specs.FreeWeekends.{free_weekends}
use Rattle.roster_print.specs.RosterText.{roster_text}
use Rattle.refutation_log.specs.declared.found.Found.TheVariants as Founds
use Rattle.refutation_log.specs.declared.best_found.BestFound.{BestFound}
use Rattle.refutation_log.specs.declared.best_found.BestFound.TheVariants as Bests
use Rattle.refutation_checker.specs.Accepted.{shown_by}
use Rattle.refutation_checker.specs.declared.verdict.PassedLog.{PassedLog}
use Rattle.crew_size.specs.Texts.{Staff as StaffRun, staff_text}
use Rattle.crew_size.specs.Laws.{decision_of}
use Rattle.crew_size.specs.declared.verdict.Staffed.{Staffed}
use Rattle.command_line.specs.Commands.{CommandWords, ReadsSecond, file_of, second_of}
use Rattle.command_line.specs.declared.command.Command.{Command}
use Rattle.command_line.specs.declared.command.Command.TheVariants.{OnProblem, OnFiles, Explain}
use Rattle.command_line.specs.declared.command.ProblemTask.{ProblemTask}
use Rattle.command_line.specs.declared.command.ProblemTask.TheVariants.{Plan, Best, Staff}
use Rattle.command_line.specs.declared.command.FilesTask.{FilesTask}
use Rattle.command_line.specs.declared.command.FilesTask.TheVariants.{Check, Verify, Reduce, CheckFree, CheckStaff, Fill, CheckFill}
use Rattle.commands.specs.Files.{IsWithinLimit}
use Rattle.commands.specs.ProblemFile.{IsShortFile}
use Rattle.plain_words.specs.Statements.{Statement}
use Rattle.plain_words.specs.Laws.{rule_in}
use Rattle.commands.specs.Plan.{PlansAgree, ArePlanStatements}
use Rattle.commands.specs.Check.{IsChecked, check_statements}
use Rattle.commands.specs.Best.{BestsAgree, best_roster}
use Rattle.commands.specs.Staff.{StaffsAgree}
use Rattle.commands.specs.Fill.{FillsAgree}
use Rattle.ways_out.specs.Agreement.{WaysAgree}
use Rattle.commands.specs.declared.second_file.SecondKind.TheVariants as Kinds
use Rattle.commands.specs.declared.explain.Answer.TheVariants as Explanations
use Rattle.commands.specs.declared.staff.Answer.TheVariants as Staffs
use Rattle.commands.specs.declared.verify.Answer.TheVariants as Verifies
use Rattle.commands.specs.declared.check.Answer.TheVariants as Checks
use Rattle.commands.specs.declared.check_staff.Answer.TheVariants as StaffChecks
use Rattle.commands.specs.declared.reduce.Answer.TheVariants as Reductions
use Rattle.commands.specs.declared.fill.Answer.TheVariants as Fills
use Rattle.rwsp_run.specs.Answers.{IsAnswer, IsAnswerOn, IsAnswerTo, IsAsked}
use Rattle.rwsp_run.specs.Texts.{IsTextOf}
use Rattle.rwsp_run.specs.Told.{IsToldOf}
use Rattle.rwsp_run.specs.Commands.{job_text}
use Rattle.rwsp_run.specs.declared.jobs.JobAnswer.{JobAnswer}
use Rattle.rwsp_run.specs.declared.jobs.JobAnswer.TheVariants as Jobs
use Rattle.rwsp_run.specs.declared.answer.Answer.{Answer}
use Rattle.rwsp_run.specs.declared.answer.Answer.TheVariants.{Trial, Job, Explained}

-- the shelf tells what the problem's file holds, or that it isn't there, where the words ask for a command that reads
-- one
abbrev pub IsProblemTold : (List ℕ → Told) → CommandWords → Type 0
IsProblemTold held words = (command : Command) → IsAsked words command → held (file_of command) ≢ Silent

-- and so for the second file
abbrev pub AreTold : (List ℕ → Told) → CommandWords → Type 0
AreTold held words =
    IsProblemTold held words
    × ((command : Command) → IsAsked words command → ReadsSecond command → held (second_of command) ≢ Silent)

-- two answers of a search that may both fit: it is free to choose
abbrev pub JobsAgree : JobAnswer → JobAnswer → Type 0
JobsAgree (Jobs.Plan a) (Jobs.Plan b) = PlansAgree a b
JobsAgree (Jobs.Best a) (Jobs.Best b) = BestsAgree a b
JobsAgree (Jobs.Staff a) (Jobs.Staff b) = StaffsAgree a b
JobsAgree (Jobs.Mend a) (Jobs.Mend b) = WaysAgree a b
JobsAgree (Jobs.Fill a) (Jobs.Fill b) = FillsAgree a b
JobsAgree a b = ⊥

-- the same of whole answers; and trials are of one problem
abbrev pub AgreeInSearch : Answer → Answer → Type 0
AgreeInSearch (Trial a) (Trial b) = (a.number ≡ b.number) × (a.weeks ≡ b.weeks)
AgreeInSearch (Job a) (Job b) = JobsAgree a b
AgreeInSearch a b = ⊥

-- two answers to the same words over the same files are equal, or both are what a search gives, and not a roster
-- beside a refutation
abbrev pub AnswersAreOne : Type 0
AnswersAreOne =
    (held : List ℕ → Told) (words : CommandWords) (a b : Answer) → AreTold held words → IsAnswer held words a
    → IsAnswer held words b
    → (a ≡ b) ⊎ AgreeInSearch a b

-- an answer has one text
abbrev pub TextsAreOne : Type 0
TextsAreOne =
    (held : List ℕ → Told) (words : CommandWords) (a : Answer) (text other : List ℕ)
    → IsProblemTold held words → IsTextOf held words a text → IsTextOf held words a other
    → text ≡ other

-- an answer and its problem's file have one text of words
abbrev pub WordsAreOne : Type 0
WordsAreOne =
    (held : List ℕ → Told) (words : CommandWords) (a : Answer) (text other : List ℕ)
    → IsProblemTold held words → IsToldOf held words a text → IsToldOf held words a other
    → text ≡ other

-- where the words ask for a command, and the problem's file spells an instance, an answer is one of the command's there
abbrev pub ProblemsAreAnswered : Type 0
ProblemsAreAnswered =
    (held : List ℕ → Told) (words : CommandWords) (command : Command) (file : List ℕ) (P : Instance) (a : Answer)
    → IsAsked words command → held (file_of command) ≡ Bytes file → IsShortFile file → SpellsProblem file P
    → IsAnswer held words a
    → IsAnswerOn command (held (second_of command)) P a

-- of a file that isn't too long `explain` says why it is refused exactly where the reader refuses it
abbrev pub RefusalsAreTheReaders : Type 0
RefusalsAreTheReaders =
    (held : List ℕ → Told) (name file : List ℕ) (a : Answer)
    → held name ≡ Bytes file → IsShortFile file → IsAnswerTo (Explain name) held a
    → ((text : List ℕ) × (a ≡ Explained (Explanations.Refused text)))
    ↔ ((why : FileRefusal) × (file_refusal file ≡ Some why))

-- an answer to a task on a problem, whatever its file is called
abbrev pub IsAnswerOnProblem : ProblemTask → Instance → Answer → Type 0
IsAnswerOnProblem task P answer = (name : List ℕ) × (told : Told) × IsAnswerOn (OnProblem name task) told P answer

-- the same with what a second file tells
abbrev pub IsAnswerOnFiles : FilesTask → Told → Instance → Answer → Type 0
IsAnswerOnFiles task told P answer = (name second : List ℕ) × IsAnswerOn (OnFiles name second task) told P answer

-- the text of a roster that `plan` writes for what a file spells meets every rule by `verify`
abbrev pub RostersMeet : Type 0
RostersMeet =
    (file : List ℕ) (P : Instance) (budget seed : ℕ) (counts : Bool) (s : Roster) (a : Answer)
    → SpellsProblem file P → IsAnswerOnProblem (Plan budget counts seed) P (Job (Jobs.Plan (Founds.Roster s)))
    → IsAnswerOnFiles Verify (Bytes (job_text P (Jobs.Plan (Founds.Roster s)))) P a
    → a ≡ Job (Jobs.Verify Verifies.Meets)

-- the text of a refutation that `plan` writes is accepted by `check` over the same file, with what it shows
abbrev pub RefutationsAreAccepted : Type 0
RefutationsAreAccepted =
    (file : List ℕ) (P : Instance) (budget seed workers : ℕ) (counts : Bool) (g : Log) (a : Answer)
    → SpellsProblem file P → IsAnswerOnProblem (Plan budget counts seed) P (Job (Jobs.Plan (Founds.NoRoster g)))
    → IsWithinLimit Kinds.Log (job_text P (Jobs.Plan (Founds.NoRoster g)))
    → IsAnswerOnFiles (Check workers) (Bytes (job_text P (Jobs.Plan (Founds.NoRoster g)))) P a
    → (g.goal ≡ None) × (a ≡ Job (Jobs.Check (Checks.Accepted (shown_by g))))

-- the text of what `reduce` writes is accepted by `check`, with what it shows
abbrev pub ReductionsAreAccepted : Type 0
ReductionsAreAccepted =
    (file : List ℕ) (P : Instance) (workers : ℕ) (told : Told) (h : Log) (a : Answer)
    → SpellsProblem file P → IsAnswerOnFiles Reduce told P (Job (Jobs.Reduce (Reductions.Reduced h)))
    → IsWithinLimit Kinds.Log (job_text P (Jobs.Reduce (Reductions.Reduced h)))
    → IsAnswerOnFiles (Check workers) (Bytes (job_text P (Jobs.Reduce (Reductions.Reduced h)))) P a
    → (h.goal ≡ None) × (a ≡ Job (Jobs.Check (Checks.Accepted (shown_by h))))

-- the text of what `staff` writes with a least crew, or with none up to the last size, is accepted by `check-staff`,
-- with what it decides
abbrev pub StaffTextsAreAccepted : Type 0
StaffTextsAreAccepted =
    (file : List ℕ) (P : Instance) (low high budget : ℕ) (counts : Bool) (run : StaffRun) (staffed : Staffed) (a : Answer)
    → SpellsProblem file P → (1 ≤ low) × (low ≤ high) × (high ≤ MOST_WEEKS)
    → IsAnswerOnProblem (Staff low high budget counts) P (Job (Jobs.Staff (Staffs.Run run)))
    → decision_of run ≡ Some staffed → IsWithinLimit Kinds.Log (staff_text P run)
    → IsAnswerOnFiles CheckStaff (Bytes (staff_text P run)) P a
    → a ≡ Job (Jobs.CheckStaff (StaffChecks.Accepted staffed))

-- the roster that `best` finds meets every rule by `verify`, also where the budget was spent
abbrev pub BestRostersMeet : Type 0
BestRostersMeet =
    (file : List ℕ) (P : Instance) (budget : ℕ) (counts : Bool) (found : BestFound) (s : Roster) (a : Answer)
    → SpellsProblem file P → IsAnswerOnProblem (Best budget counts) P (Job (Jobs.Best found))
    → best_roster found ≡ Some s → IsAnswerOnFiles Verify (Bytes (roster_text P s.cells)) P a
    → a ≡ Job (Jobs.Verify Verifies.Meets)

-- the roster that `best` finds with a proof meets every rule by `verify`, and no roster that does has more free
-- weekends
abbrev pub BestRostersAreBest : Type 0
BestRostersAreBest =
    (file : List ℕ) (P : Instance) (budget : ℕ) (counts : Bool) (s : Roster) (g : Log) (a : Answer)
    → SpellsProblem file P → IsAnswerOnProblem (Best budget counts) P (Job (Jobs.Best (Bests.Best s g)))
    → IsAnswerOnFiles Verify (Bytes (roster_text P s.cells)) P a
    → (a ≡ Job (Jobs.Verify Verifies.Meets))
    × ((t : List Symbol) → MeetsAll P t → free_weekends t ≤ free_weekends s.cells)

-- the goal and the log of what `best` proves
abbrev pub IsProofOf : BestFound → ℕ → Log → Type 0
IsProofOf (Bests.Best s g) goal h = (goal ≡ free_weekends s.cells + 1) × (h ≡ g)
IsProofOf (Bests.NoRoster g) goal h = (goal ≡ 0) × (h ≡ g)
IsProofOf (Bests.Undecided s g) goal h = ⊥

-- the log that `best` writes as a proof is accepted by `check-free`, with its goal and the rules that it names
abbrev pub BestProofsAreAccepted : Type 0
BestProofsAreAccepted =
    (file : List ℕ) (P : Instance) (budget goal : ℕ) (counts : Bool) (found : BestFound) (g : Log) (a : Answer)
    → SpellsProblem file P → IsAnswerOnProblem (Best budget counts) P (Job (Jobs.Best found))
    → IsProofOf found goal g → IsWithinLimit Kinds.Log (log_text P g)
    → IsAnswerOnFiles CheckFree (Bytes (log_text P g)) P a
    → (g.goal ≡ Some goal) × (a ≡ Job (Jobs.Check (Checks.Accepted (shown_by g))))

-- the text of a roster that `fill` writes for what a file spells meets every rule by `verify`
abbrev pub FilledRostersMeet : Type 0
FilledRostersMeet =
    (file : List ℕ) (P : Instance) (budget : ℕ) (told : Told) (s : Roster) (a : Answer)
    → SpellsProblem file P
    → IsAnswerOnFiles (Fill budget) told P (Job (Jobs.Fill (Fills.Found (Founds.Roster s))))
    → IsAnswerOnFiles Verify (Bytes (roster_text P s.cells)) P a
    → a ≡ Job (Jobs.Verify Verifies.Meets)

-- the text of a refutation that `fill` writes is accepted by `check-fill` over the same file, with the rules and the
-- cells that it names
abbrev pub FillLogsAreAccepted : Type 0
FillLogsAreAccepted =
    (file : List ℕ) (P : Instance) (budget : ℕ) (told : Told) (g : Log) (a : Answer)
    → SpellsProblem file P
    → IsAnswerOnFiles (Fill budget) told P (Job (Jobs.Fill (Fills.Found (Founds.NoRoster g))))
    → IsWithinLimit Kinds.Log (log_text P g) → IsAnswerOnFiles CheckFill (Bytes (log_text P g)) P a
    → a ≡ Job (Jobs.Check (Checks.Accepted (shown_by g)))

-- the number of workers makes no difference to what is said of an answer
abbrev pub WorkersMakeNoDifference : Type 0
WorkersMakeNoDifference =
    (m n : ℕ) (name second : List ℕ) (told : Told) (P : Instance) (a : Answer)
    → IsAnswerOn (OnFiles name second (Check m)) told P a → IsAnswerOn (OnFiles name second (Check n)) told P a

-- a rule that `plan` tells of, where there is no roster, is one that the log names
abbrev pub ToldRulesAreNamed : Type 0
ToldRulesAreNamed =
    (P : Instance) (g : Log) (statements : List Statement) (k : ℕ)
    → ArePlanStatements P g statements → Contains (flat_map rule_in statements) k
    → Contains g.named k

-- what `check`, `check-free` and `check-fill` tell as judged was judged: the bytes spell a log that passes, and it names the rules
abbrev pub ToldLogsWereJudged : Type 0
ToldLogsWereJudged =
    (P : Instance) (kind : LogKind) (bytes : List ℕ) (passed : PassedLog) → IsChecked P kind bytes (Checks.Accepted passed)
    → (g : Log) × IsAccepted P kind bytes g
    × (flat_map rule_in (check_statements P (Checks.Accepted passed)) ≡ g.named)

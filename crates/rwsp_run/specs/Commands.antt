-- What each command reads, answers, prints and ends with: a line each, from the definitions of the command.
use Rattle.std.specs.Prelude.{◌≡◌, ℕ, List, [], Option, Some, None, is_none, ◌==◌, if◌then◌else◌}
use Rattle.rwsp_terms.specs.declared.limits.TheConstants.{DAYS_OF_WEEK}
use Rattle.rwsp_terms.specs.Instance.{Instance, symbol_of}
use Rattle.rwsp_file.specs.Text.{problem_text}
use Rattle.refutation_terms.specs.Log.{Log}
use Rattle.refutation_terms.specs.declared.lines.LogKind.TheVariants.{WithoutGoal, WithGoal, WithCells}
use Rattle.roster_print.specs.Said.{open_word}
use Rattle.refutation_log.specs.declared.found.Found.TheVariants as Founds
use Rattle.refutation_log.specs.declared.best_found.BestFound.TheVariants as Bests
use Rattle.crew_size.specs.declared.run.StaffEnd.{StaffEnd}
use Rattle.crew_size.specs.declared.run.StaffEnd.TheVariants as Ends
use Rattle.ways_out.specs.declared.answer.WaysOut.TheVariants as Ways
use Rattle.plain_words.specs.declared.problem.Telling.{Telling}
use Rattle.plain_words.specs.declared.problem.Telling.TheVariants.{LongNames, Slips, Unsized, WithCounts}
use Rattle.commands.specs.declared.staff.Answer.TheVariants as Staffs
use Rattle.commands.specs.declared.fill.Answer.TheVariants as Fills
use Rattle.command_line.specs.declared.command.Command.{Command}
use Rattle.command_line.specs.declared.command.Command.TheVariants.{OnProblem, OnFiles}
use Rattle.command_line.specs.declared.command.ProblemTask.{ProblemTask}
use Rattle.command_line.specs.declared.command.ProblemTask.TheVariants as ProblemTasks
use Rattle.command_line.specs.declared.command.FilesTask.{FilesTask}
use Rattle.command_line.specs.declared.command.FilesTask.TheVariants as FilesTasks
use Rattle.commands.specs.Plan.{IsPlanAnswer, plan_text, plan_status, IsPlanOf, IsPlanTold}
use Rattle.commands.specs.Best.{IsBestAnswer, best_text, best_status, IsBestOf, IsBestTold}
use Rattle.commands.specs.Staff.{IsStaffAnswer, staff_answer_text, staff_status, IsStaffAnswerOf, IsStaffTold}
use Rattle.commands.specs.Verify.{IsVerified, verify_text, verify_status, IsVerifiedOf, IsVerifyTold}
use Rattle.commands.specs.Check.{IsChecked, check_text, check_status, IsCheckedOf, IsCheckTold}
use Rattle.commands.specs.CheckStaff.{IsCheckedStaff, check_staff_text, check_staff_status, IsCheckedStaffOf, IsCheckStaffTold}
use Rattle.commands.specs.Reduce.{IsReduction, reduce_text, reduce_status, IsReductionOf, IsReduceTold}
use Rattle.commands.specs.Crew.{IsCrewAnswer, crew_text, crew_status, IsCrewAnswerOf, IsCrewTold}
use Rattle.commands.specs.Mend.{IsMendAnswer, IsMendTold}
use Rattle.ways_out.specs.Answers.{AreWaysOf}
use Rattle.ways_out.specs.Texts.{ways_text, ways_status}
use Rattle.commands.specs.Rest.{IsRestAnswer, rest_text, rest_status, IsRestTold}
use Rattle.commands.specs.Page.{IsPageAnswer, page_answer_text, page_status, IsPageAnswerOf, IsPageTold}
use Rattle.commands.specs.Ics.{IsIcsAnswer, ics_text, ics_status, IsIcsAnswerOf, IsIcsTold}
use Rattle.commands.specs.On.{IsOnAnswer, on_text, on_status, IsOnAnswerOf, IsOnTold}
use Rattle.commands.specs.Roster.{IsRosterAnswer, roster_answer_text, roster_status, IsRosterAnswerOf, IsRosterTold}
use Rattle.commands.specs.Fill.{IsFillAnswer, fill_answer_text, fill_status, IsFillAnswerOf, IsFillTold}
use Rattle.commands.specs.declared.second_file.SecondKind.{SecondKind}
use Rattle.commands.specs.declared.second_file.SecondKind.TheVariants as Kinds
use Rattle.rwsp_run.specs.declared.answer.Unfit.{Unfit}
use Rattle.rwsp_run.specs.declared.answer.Unfit.TheVariants.{NotWeekly, OpenWordTaken}
use Rattle.rwsp_run.specs.declared.jobs.JobAnswer.{JobAnswer}
use Rattle.rwsp_run.specs.declared.jobs.JobAnswer.TheVariants as Jobs

-- the kind of a task's second file
abbrev pub second_kind : FilesTask → SecondKind
second_kind FilesTasks.Verify = Kinds.Roster
second_kind (FilesTasks.Crew date days layout) = Kinds.Roster
second_kind FilesTasks.Page = Kinds.Roster
second_kind (FilesTasks.Ics date days employee) = Kinds.Roster
second_kind (FilesTasks.On start date) = Kinds.Roster
second_kind (FilesTasks.Fill budget) = Kinds.Roster
second_kind task = Kinds.Log

-- why an instance isn't one for tasks on weeks of seven days
abbrev pub unfit_by_days : Instance → Option Unfit
unfit_by_days P = if P.days == DAYS_OF_WEEK then None else Some (NotWeekly P.days)

-- why it isn't one for tasks on given cells, in whose text the word `?` leaves a cell open
abbrev pub unfit_by_names : Instance → Option Unfit
unfit_by_names P = if is_none (symbol_of P open_word) then None else Some OpenWordTaken

-- why it isn't one for a task, if it isn't
abbrev pub unfit_for_problem_task : ProblemTask → Instance → Option Unfit
unfit_for_problem_task (ProblemTasks.Best budget counts) P = unfit_by_days P
unfit_for_problem_task task P = None

abbrev pub unfit_for_files_task : FilesTask → Instance → Option Unfit
unfit_for_files_task FilesTasks.CheckFree P = unfit_by_days P
unfit_for_files_task (FilesTasks.Fill budget) P = unfit_by_names P
unfit_for_files_task FilesTasks.CheckFill P = unfit_by_names P
unfit_for_files_task task P = None

-- why it isn't one for a command, if it isn't
abbrev pub unfit_for : Command → Instance → Option Unfit
unfit_for (OnProblem file task) P = unfit_for_problem_task task P
unfit_for (OnFiles file second task) P = unfit_for_files_task task P
unfit_for command P = None

-- the instance is one for the task
abbrev pub SuitsProblemTask : ProblemTask → Instance → Type 0
SuitsProblemTask task P = unfit_for_problem_task task P ≡ None

abbrev pub SuitsFilesTask : FilesTask → Instance → Type 0
SuitsFilesTask task P = unfit_for_files_task task P ≡ None

-- the problem is one for the command
abbrev pub Suits : Command → Instance → Type 0
Suits command P = unfit_for command P ≡ None

-- what the answer to a task says of the problem
abbrev pub IsProblemAnswer : ProblemTask → Instance → JobAnswer → Type 0
IsProblemAnswer ProblemTasks.Show P Jobs.Show = Unit {0}
IsProblemAnswer (ProblemTasks.Plan budget counts seed) P (Jobs.Plan found) = IsPlanAnswer P budget counts found
IsProblemAnswer (ProblemTasks.Best budget counts) P (Jobs.Best found) = IsBestAnswer P budget counts found
IsProblemAnswer (ProblemTasks.Staff low high budget counts) P (Jobs.Staff a) = IsStaffAnswer P low high budget counts a
IsProblemAnswer (ProblemTasks.Mend budget counts) P (Jobs.Mend ways) = IsMendAnswer P budget counts ways
IsProblemAnswer (ProblemTasks.Rest minutes) P (Jobs.Rest a) = IsRestAnswer P minutes a
IsProblemAnswer task P answer = ⊥

-- what the answer to a task says of the problem and of the bytes of the second file
abbrev pub IsFilesAnswer : FilesTask → Instance → List ℕ → JobAnswer → Type 0
IsFilesAnswer FilesTasks.Verify P bytes (Jobs.Verify a) = IsVerified P bytes a
IsFilesAnswer (FilesTasks.Check workers) P bytes (Jobs.Check a) = IsChecked P WithoutGoal bytes a
IsFilesAnswer FilesTasks.CheckFree P bytes (Jobs.Check a) = IsChecked P WithGoal bytes a
IsFilesAnswer FilesTasks.CheckStaff P bytes (Jobs.CheckStaff a) = IsCheckedStaff P bytes a
IsFilesAnswer FilesTasks.Reduce P bytes (Jobs.Reduce a) = IsReduction P bytes a
IsFilesAnswer (FilesTasks.Crew date days layout) P bytes (Jobs.Crew a) = IsCrewAnswer P bytes date days layout a
IsFilesAnswer FilesTasks.Page P bytes (Jobs.Page a) = IsPageAnswer P bytes a
IsFilesAnswer (FilesTasks.Ics date days employee) P bytes (Jobs.Ics a) = IsIcsAnswer P bytes date days employee a
IsFilesAnswer (FilesTasks.On start date) P bytes (Jobs.On a) = IsOnAnswer P bytes start date a
IsFilesAnswer FilesTasks.Roster P bytes (Jobs.Roster a) = IsRosterAnswer P bytes a
IsFilesAnswer (FilesTasks.Fill budget) P bytes (Jobs.Fill a) = IsFillAnswer P bytes budget a
IsFilesAnswer FilesTasks.CheckFill P bytes (Jobs.Check a) = IsChecked P WithCells bytes a
IsFilesAnswer task P bytes answer = ⊥

-- the text of an answer to a command on a problem
abbrev pub job_text : Instance → JobAnswer → List ℕ
job_text P Jobs.Show = problem_text P
job_text P (Jobs.Plan found) = plan_text P found
job_text P (Jobs.Best found) = best_text P found
job_text P (Jobs.Staff a) = staff_answer_text P a
job_text P (Jobs.Verify a) = verify_text P a
job_text P (Jobs.Check a) = check_text P a
job_text P (Jobs.CheckStaff a) = check_staff_text P a
job_text P (Jobs.Reduce a) = reduce_text P a
job_text P (Jobs.Crew a) = crew_text P a
job_text P (Jobs.Mend ways) = ways_text P ways
job_text P (Jobs.Rest a) = rest_text a
job_text P (Jobs.Page a) = page_answer_text P a
job_text P (Jobs.Ics a) = ics_text P a
job_text P (Jobs.On a) = on_text P a
job_text P (Jobs.Roster a) = roster_answer_text P a
job_text P (Jobs.Fill a) = fill_answer_text P a

-- what is told in words of an answer
abbrev pub IsJobTold : Instance → JobAnswer → List ℕ → Type 0
IsJobTold P Jobs.Show text = text ≡ []
IsJobTold P (Jobs.Plan found) text = IsPlanTold P found text
IsJobTold P (Jobs.Best found) text = IsBestTold P found text
IsJobTold P (Jobs.Staff a) text = IsStaffTold P a text
IsJobTold P (Jobs.Verify a) text = IsVerifyTold P a text
IsJobTold P (Jobs.Check a) text = IsCheckTold P a text
IsJobTold P (Jobs.CheckStaff a) text = IsCheckStaffTold P a text
IsJobTold P (Jobs.Reduce a) text = IsReduceTold P a text
IsJobTold P (Jobs.Crew a) text = IsCrewTold P a text
IsJobTold P (Jobs.Mend ways) text = IsMendTold P ways text
IsJobTold P (Jobs.Rest a) text = IsRestTold P a text
IsJobTold P (Jobs.Page a) text = IsPageTold P a text
IsJobTold P (Jobs.Ics a) text = IsIcsTold P a text
IsJobTold P (Jobs.On a) text = IsOnTold P a text
IsJobTold P (Jobs.Roster a) text = IsRosterTold P a text
IsJobTold P (Jobs.Fill a) text = IsFillTold P a text

-- which sentences about the problem stand behind what is told of a log: a log that counts blocks has shown a count
abbrev pub slips_behind_log : Log → Telling
slips_behind_log g = if g.counts then Slips else WithCounts

-- and behind that of a search by numbers of weeks
abbrev pub slips_behind_run : StaffEnd → Telling
slips_behind_run (Ends.Least s) = LongNames
slips_behind_run end = Unsized

-- which slips are told behind what is told of an answer
abbrev pub slips_behind : JobAnswer → Option Telling
slips_behind (Jobs.Plan (Founds.NoRoster g)) = Some (slips_behind_log g)
slips_behind (Jobs.Plan (Founds.Undecided g)) = Some WithCounts
slips_behind (Jobs.Best (Bests.Best s g)) = Some LongNames
slips_behind (Jobs.Best (Bests.NoRoster g)) = Some (slips_behind_log g)
slips_behind (Jobs.Best (Bests.Undecided s g)) = Some WithCounts
slips_behind (Jobs.Staff (Staffs.Run run)) = Some (slips_behind_run run.end)
slips_behind (Jobs.Mend (Ways.Undecided g)) = Some WithCounts
slips_behind (Jobs.Mend (Ways.Changes outcomes)) = Some WithCounts
slips_behind (Jobs.Fill (Fills.Found (Founds.NoRoster g))) = Some (slips_behind_log g)
slips_behind (Jobs.Fill (Fills.Found (Founds.Undecided g))) = Some WithCounts
slips_behind answer = None

-- what the answer names is the problem's
abbrev pub IsPrintable : Instance → JobAnswer → Type 0
IsPrintable P Jobs.Show = Unit {0}
IsPrintable P (Jobs.Plan found) = IsPlanOf P found
IsPrintable P (Jobs.Best found) = IsBestOf P found
IsPrintable P (Jobs.Staff a) = IsStaffAnswerOf P a
IsPrintable P (Jobs.Verify a) = IsVerifiedOf P a
IsPrintable P (Jobs.Check a) = IsCheckedOf P a
IsPrintable P (Jobs.CheckStaff a) = IsCheckedStaffOf P a
IsPrintable P (Jobs.Reduce a) = IsReductionOf P a
IsPrintable P (Jobs.Crew a) = IsCrewAnswerOf P a
IsPrintable P (Jobs.Mend ways) = AreWaysOf P ways
IsPrintable P (Jobs.Rest a) = Unit {0}
IsPrintable P (Jobs.Page a) = IsPageAnswerOf P a
IsPrintable P (Jobs.Ics a) = IsIcsAnswerOf P a
IsPrintable P (Jobs.On a) = IsOnAnswerOf P a
IsPrintable P (Jobs.Roster a) = IsRosterAnswerOf P a
IsPrintable P (Jobs.Fill a) = IsFillAnswerOf P a

-- the status where the text was written
abbrev pub job_status : JobAnswer → ℕ
job_status Jobs.Show = 0
job_status (Jobs.Plan found) = plan_status found
job_status (Jobs.Best found) = best_status found
job_status (Jobs.Staff a) = staff_status a
job_status (Jobs.Verify a) = verify_status a
job_status (Jobs.Check a) = check_status a
job_status (Jobs.CheckStaff a) = check_staff_status a
job_status (Jobs.Reduce a) = reduce_status a
job_status (Jobs.Crew a) = crew_status a
job_status (Jobs.Mend ways) = ways_status ways
job_status (Jobs.Rest a) = rest_status a
job_status (Jobs.Page a) = page_status a
job_status (Jobs.Ics a) = ics_status a
job_status (Jobs.On a) = on_status a
job_status (Jobs.Roster a) = roster_status a
job_status (Jobs.Fill a) = fill_status a

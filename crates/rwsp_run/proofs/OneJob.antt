-- A task has one answer, a search aside.
use Rattle.std.proofs.Common.{◌≡◌, ℕ, List, ap, refl, inl, inr}
use Rattle.std.specs.Prelude.{◌⊎◌}
use Rattle.rwsp_terms.specs.Instance.{Instance}
use Rattle.rwsp_model.specs.Validity.{KeepsLimits}
use Rattle.refutation_terms.specs.declared.lines.LogKind.TheVariants.{WithoutGoal, WithGoal, WithCells}
use Rattle.command_line.specs.declared.command.ProblemTask.{ProblemTask}
use Rattle.command_line.specs.declared.command.ProblemTask.TheVariants as ProblemTasks
use Rattle.command_line.specs.declared.command.FilesTask.{FilesTask}
use Rattle.command_line.specs.declared.command.FilesTask.TheVariants as FilesTasks
use Rattle.commands.proofs.Rosters.{one_verified}
use Rattle.commands.proofs.Logs.{one_checked, one_reduction, plans_agree}
use Rattle.commands.proofs.Staffs.{one_checked_staff, staffs_agree}
use Rattle.commands.proofs.Bests.{bests_agree}
use Rattle.commands.proofs.Calendars.{one_crew, one_ics, one_on_date}
use Rattle.commands.proofs.Mends.{mends_agree}
use Rattle.commands.proofs.Rests.{one_rest}
use Rattle.commands.proofs.Pages.{one_page}
use Rattle.commands.proofs.RosterAnswers.{one_taken}
use Rattle.commands.proofs.Fills.{fills_agree}
use Rattle.rwsp_run.specs.Commands.{IsProblemAnswer, IsFilesAnswer}
use Rattle.rwsp_run.specs.Laws.{JobsAgree}
use Rattle.rwsp_run.specs.declared.jobs.JobAnswer.{JobAnswer}
use Rattle.rwsp_run.specs.declared.jobs.JobAnswer.TheVariants as Jobs

-- two answers to a task on a problem
pub one_on_problem : (task : ProblemTask) (P : Instance) (a b : JobAnswer) → IsProblemAnswer task P a → IsProblemAnswer task P b → (a ≡ b) ⊎ JobsAgree a b
one_on_problem ProblemTasks.Show P Jobs.Show Jobs.Show h k = inl refl
one_on_problem ProblemTasks.Show P Jobs.Show b h k = absurd k
one_on_problem ProblemTasks.Show P a b h k = absurd h
one_on_problem (ProblemTasks.Plan budget counts seed) P (Jobs.Plan x) (Jobs.Plan y) h k = inr (plans_agree P budget x y h.0 k.0)
one_on_problem (ProblemTasks.Plan budget counts seed) P (Jobs.Plan x) b h k = absurd k
one_on_problem (ProblemTasks.Plan budget counts seed) P a b h k = absurd h
one_on_problem (ProblemTasks.Best budget counts) P (Jobs.Best x) (Jobs.Best y) h k = inr (bests_agree P budget counts x y h k)
one_on_problem (ProblemTasks.Best budget counts) P (Jobs.Best x) b h k = absurd k
one_on_problem (ProblemTasks.Best budget counts) P a b h k = absurd h
one_on_problem (ProblemTasks.Staff low high budget counts) P (Jobs.Staff x) (Jobs.Staff y) h k = inr (staffs_agree P low high budget counts x y h k)
one_on_problem (ProblemTasks.Staff low high budget counts) P (Jobs.Staff x) b h k = absurd k
one_on_problem (ProblemTasks.Staff low high budget counts) P a b h k = absurd h
one_on_problem (ProblemTasks.Mend budget counts) P (Jobs.Mend x) (Jobs.Mend y) h k = inr (mends_agree P budget counts x y h k)
one_on_problem (ProblemTasks.Mend budget counts) P (Jobs.Mend x) b h k = absurd k
one_on_problem (ProblemTasks.Mend budget counts) P a b h k = absurd h
one_on_problem (ProblemTasks.Rest minutes) P (Jobs.Rest x) (Jobs.Rest y) h k = inl (ap Jobs.Rest (one_rest P minutes x y h k))
one_on_problem (ProblemTasks.Rest minutes) P (Jobs.Rest x) b h k = absurd k
one_on_problem (ProblemTasks.Rest minutes) P a b h k = absurd h

-- two answers to a task on a problem and the bytes of a second file
pub one_on_files : (task : FilesTask) (P : Instance) (bytes : List ℕ) (a b : JobAnswer) → KeepsLimits P → IsFilesAnswer task P bytes a → IsFilesAnswer task P bytes b → (a ≡ b) ⊎ JobsAgree a b
one_on_files FilesTasks.Verify P bytes (Jobs.Verify x) (Jobs.Verify y) limits h k = inl (ap Jobs.Verify (one_verified P bytes x y h k))
one_on_files FilesTasks.Verify P bytes (Jobs.Verify x) b limits h k = absurd k
one_on_files FilesTasks.Verify P bytes a b limits h k = absurd h
one_on_files (FilesTasks.Check workers) P bytes (Jobs.Check x) (Jobs.Check y) limits h k = inl (ap Jobs.Check (one_checked P WithoutGoal bytes x y limits h k))
one_on_files (FilesTasks.Check workers) P bytes (Jobs.Check x) b limits h k = absurd k
one_on_files (FilesTasks.Check workers) P bytes a b limits h k = absurd h
one_on_files FilesTasks.CheckFree P bytes (Jobs.Check x) (Jobs.Check y) limits h k = inl (ap Jobs.Check (one_checked P WithGoal bytes x y limits h k))
one_on_files FilesTasks.CheckFree P bytes (Jobs.Check x) b limits h k = absurd k
one_on_files FilesTasks.CheckFree P bytes a b limits h k = absurd h
one_on_files FilesTasks.CheckStaff P bytes (Jobs.CheckStaff x) (Jobs.CheckStaff y) limits h k = inl (ap Jobs.CheckStaff (one_checked_staff P bytes x y limits h k))
one_on_files FilesTasks.CheckStaff P bytes (Jobs.CheckStaff x) b limits h k = absurd k
one_on_files FilesTasks.CheckStaff P bytes a b limits h k = absurd h
one_on_files FilesTasks.Reduce P bytes (Jobs.Reduce x) (Jobs.Reduce y) limits h k = inl (ap Jobs.Reduce (one_reduction P bytes x y limits h k))
one_on_files FilesTasks.Reduce P bytes (Jobs.Reduce x) b limits h k = absurd k
one_on_files FilesTasks.Reduce P bytes a b limits h k = absurd h
one_on_files (FilesTasks.Crew date days layout) P bytes (Jobs.Crew x) (Jobs.Crew y) limits h k = inl (ap Jobs.Crew (one_crew P bytes date days layout x y limits h k))
one_on_files (FilesTasks.Crew date days layout) P bytes (Jobs.Crew x) b limits h k = absurd k
one_on_files (FilesTasks.Crew date days layout) P bytes a b limits h k = absurd h
one_on_files FilesTasks.Page P bytes (Jobs.Page x) (Jobs.Page y) limits h k = inl (ap Jobs.Page (one_page P bytes x y h k))
one_on_files FilesTasks.Page P bytes (Jobs.Page x) b limits h k = absurd k
one_on_files FilesTasks.Page P bytes a b limits h k = absurd h
one_on_files (FilesTasks.Ics date days employee) P bytes (Jobs.Ics x) (Jobs.Ics y) limits h k = inl (ap Jobs.Ics (one_ics P bytes date days employee x y limits h k))
one_on_files (FilesTasks.Ics date days employee) P bytes (Jobs.Ics x) b limits h k = absurd k
one_on_files (FilesTasks.Ics date days employee) P bytes a b limits h k = absurd h
one_on_files (FilesTasks.On start date) P bytes (Jobs.On x) (Jobs.On y) limits h k = inl (ap Jobs.On (one_on_date P bytes start date x y h k))
one_on_files (FilesTasks.On start date) P bytes (Jobs.On x) b limits h k = absurd k
one_on_files (FilesTasks.On start date) P bytes a b limits h k = absurd h
one_on_files FilesTasks.Roster P bytes (Jobs.Roster x) (Jobs.Roster y) limits h k = inl (ap Jobs.Roster (one_taken P bytes x y limits h k))
one_on_files FilesTasks.Roster P bytes (Jobs.Roster x) b limits h k = absurd k
one_on_files FilesTasks.Roster P bytes a b limits h k = absurd h
one_on_files (FilesTasks.Fill budget) P bytes (Jobs.Fill x) (Jobs.Fill y) limits h k = inr (fills_agree P bytes budget x y h k)
one_on_files (FilesTasks.Fill budget) P bytes (Jobs.Fill x) b limits h k = absurd k
one_on_files (FilesTasks.Fill budget) P bytes a b limits h k = absurd h
one_on_files FilesTasks.CheckFill P bytes (Jobs.Check x) (Jobs.Check y) limits h k = inl (ap Jobs.Check (one_checked P WithCells bytes x y limits h k))
one_on_files FilesTasks.CheckFill P bytes (Jobs.Check x) b limits h k = absurd k
one_on_files FilesTasks.CheckFill P bytes a b limits h k = absurd h

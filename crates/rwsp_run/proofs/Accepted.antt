-- What one command writes, another accepts.
use Rattle.std.proofs.Common.{◌≡◌, ℕ, ◌+◌, ◌<◌, ◌≤◌, Bool, List, sym, refl, ap, ◌∙◌, subst, inl, inr, arith}
use Rattle.std.specs.Prelude.{◌≢◌, ◌⊎◌, Option, Some, None}
use Rattle.rwsp_io.specs.Told.{Silent, Bytes}
use Rattle.rwsp_terms.specs.Instance.{Instance}
use Rattle.rwsp_terms.specs.Roster.{MeetsAll}
use Rattle.rwsp_terms.specs.declared.data.Symbol.{Symbol}
use Rattle.rwsp_model.specs.Validity.{KeepsLimits}
use Rattle.rwsp_model.proofs.Limits.{valid_keeps}
use Rattle.rwsp_file.specs.Spelling.{SpellsProblem}
use Rattle.refutation_terms.specs.declared.lines.LogKind.TheVariants.{WithoutGoal, WithGoal, WithCells}
use Rattle.refutation_terms.specs.declared.lines.Opening.{Opening}
use Rattle.refutation_terms.specs.Log.{Log, Passes}
use Rattle.refutation_terms.specs.LogText.{log_text}
use Rattle.refutation_terms.specs.Verdict.{kind_by, kind_of_log}
use Rattle.refutation_terms.proofs.LogKinds.{no_goal}
use Rattle.refutation_checker.specs.Accepted.{shown_by}
use Rattle.rule_reducer.proofs.KeptParts.{reduced_keeps}
use Rattle.refutation_terms.specs.FreeWeekends.{free_weekends}
use Rattle.roster_print.specs.RosterText.{roster_text}
use Rattle.roster_print.proofs.Printed.{printed_is_short, printed_is_spelled}
use Rattle.refutation_log.specs.declared.best_found.BestFound.{BestFound}
use Rattle.refutation_log.specs.declared.best_found.BestFound.TheVariants as Bests
use Rattle.crew_size.specs.Sizes.{IsSize}
use Rattle.crew_size.specs.Texts.{staff_text}
use Rattle.crew_size.proofs.Decided.{printed_accepted, accepted_decide}
use Rattle.command_line.specs.declared.command.Command.TheVariants.{OnFiles}
use Rattle.command_line.specs.declared.command.FilesTask.{FilesTask}
use Rattle.command_line.specs.declared.command.FilesTask.TheVariants.{Check, Verify, CheckFree, CheckStaff, CheckFill}
use Rattle.commands.specs.Files.{IsWithinLimit}
use Rattle.commands.specs.Best.{IsBestAnswer}
use Rattle.commands.specs.declared.second_file.SecondKind.TheVariants as Kinds
use Rattle.commands.specs.declared.verify.Answer.TheVariants as Verifies
use Rattle.commands.specs.declared.check.Answer.TheVariants as Checks
use Rattle.commands.specs.declared.check_staff.Answer.TheVariants as StaffChecks
use Rattle.commands.proofs.Logs.{text_accepted, with_goal}
use Rattle.commands.proofs.Bests.{best_meets, below_goal}
use Rattle.rwsp_run.specs.Commands.{IsFilesAnswer, second_kind, SuitsFilesTask}
use Rattle.rwsp_run.specs.Laws.{RostersMeet, RefutationsAreAccepted, ReductionsAreAccepted, StaffTextsAreAccepted, BestRostersMeet, BestRostersAreBest, BestProofsAreAccepted, FilledRostersMeet, FillLogsAreAccepted, IsProofOf, WorkersMakeNoDifference, AgreeInSearch, JobsAgree, IsAnswerOnFiles}
use Rattle.rwsp_run.specs.declared.jobs.JobAnswer.{JobAnswer}
use Rattle.rwsp_run.specs.declared.jobs.JobAnswer.TheVariants as Jobs
use Rattle.rwsp_run.specs.declared.answer.Refusal.TheVariants.{Unfit, TooLong}
use Rattle.rwsp_run.specs.declared.answer.Answer.{Answer}
use Rattle.rwsp_run.specs.declared.answer.Answer.TheVariants.{Refused, Job, Explained}
use Rattle.rwsp_run.proofs.OneAnswer.{one_on}

told : (bytes : List ℕ) → Bytes bytes ≢ Silent
told bytes e = absurd (cc)

-- where no other answer agrees with it
decided : (x : JobAnswer) (a : Answer) → ((y : JobAnswer) → JobsAgree x y → ⊥) → (Job x ≡ a) ⊎ AgreeInSearch (Job x) a → a ≡ Job x
decided x a only (inl e) = sym e
decided x (Job y) only (inr h) = absurd (only y h)
decided x a only (inr h) = absurd h

-- an answer that is right on a text is the only one
settled : (task : FilesTask) (P : Instance) (text : List ℕ) (x : JobAnswer) (a : Answer) → KeepsLimits P → SuitsFilesTask task P → IsWithinLimit (second_kind task) text → ((y : JobAnswer) → JobsAgree x y → ⊥) → IsFilesAnswer task P text x → IsAnswerOnFiles task (Bytes text) P a → a ≡ Job x
settled task P text x a limits days short only right h =
    decided x a only (one_on (OnFiles h.0 h.1 task) P (Bytes text) (Job x) a limits (λ other. told text) (days, (text, (refl, short), right)) h.2)

-- a roster that meets every rule meets every rule by `verify`
meets : (P : Instance) (file : List ℕ) (s : List Symbol) (a : Answer) → SpellsProblem file P → MeetsAll P s → IsAnswerOnFiles Verify (Bytes (roster_text P s)) P a → a ≡ Job (Jobs.Verify Verifies.Meets)
meets P file s a spells right h =
    settled Verify P (roster_text P s) (Jobs.Verify Verifies.Meets) a (valid_keeps P spells.valid) refl (printed_is_short P s spells.valid right.is_roster) (λ y h. h) (s, printed_is_spelled P s spells.valid right.is_roster, right) h

-- a log without a goal and without given cells that passes is accepted by `check`
checks : (P : Instance) (file : List ℕ) (workers : ℕ) (g : Log) (a : Answer) → SpellsProblem file P → Passes P g → kind_of_log g ≡ WithoutGoal → IsWithinLimit Kinds.Log (log_text P g) → IsAnswerOnFiles (Check workers) (Bytes (log_text P g)) P a → (g.goal ≡ None) × (a ≡ Job (Jobs.Check (Checks.Accepted (shown_by g))))
checks P file workers g a spells passes plain short h = (
  no_goal g.opening g.goal plain,
  settled (Check workers) P (log_text P g) (Jobs.Check (Checks.Accepted (shown_by g))) a (valid_keeps P spells.valid) refl short (λ y h. h) (text_accepted P WithoutGoal g plain passes) h,
)

pub rosters_meet : RostersMeet
rosters_meet file P budget seed counts s a spells planned h = meets P file s.cells a spells planned.2.1.0.1 h

pub refutations_accepted : RefutationsAreAccepted
refutations_accepted file P budget seed workers counts g a spells planned short h = checks P file workers g a spells planned.2.1.0.0 planned.2.1.0.2.of_kind short h

pub reductions_accepted : ReductionsAreAccepted
reductions_accepted file P workers told g a spells reduced short h =
    let read = reduced.2.1.2.0 in
    let kept = reduced_keeps P read.0 g read.2 in
    let plain : kind_of_log g ≡ WithoutGoal = ap (λ (o : Opening). kind_by o g.goal) kept.opening ∙ ap (λ (goal : Option ℕ). kind_by read.0.opening goal) kept.goal ∙ read.1.of_kind in
    checks P file workers g a spells reduced.2.1.2.1.passes plain short h

pub staff_accepted : StaffTextsAreAccepted
staff_accepted file P low high budget counts run staffed a spells sizes answer decides short h =
    let limits = valid_keeps P spells.valid in
    let says = answer.2.1 in
    let fits : IsSize P high = record { some = omega (arith, sizes); few = sizes.2; few_cells = says.1 } in
    let right = printed_accepted P low high budget run staffed limits sizes.0 sizes.1 fits says.2 decides in
    settled CheckStaff P (staff_text P run) (Jobs.CheckStaff (StaffChecks.Accepted staffed)) a limits refl short (λ y h. h) (right, accepted_decide P (staff_text P run) staffed right) h

pub best_rosters_meet : BestRostersMeet
best_rosters_meet file P budget counts found s a spells best is h = meets P file s.cells a spells (best_meets P budget counts found s best.2.1 is) h

at_most : (m n : ℕ) → m < n + 1 → m ≤ n
at_most m n h = omega (arith, h)

pub best_is_best : BestRostersAreBest
best_is_best file P budget counts s g a spells best h =
    (best_rosters_meet file P budget counts (Bests.Best s g) s a spells best refl h, λ t met. at_most (free_weekends t) (free_weekends s.cells) (below_goal P (free_weekends s.cells + 1) g t best.2.1.0.1.0 best.2.1.0.1.1 met))

-- the proof of a search for the most free weekends is accepted

proof_passes : (P : Instance) (budget goal : ℕ) (counts : Bool) (found : BestFound) (g : Log) → IsBestAnswer P budget counts found → IsProofOf found goal g → Passes P g × (g.goal ≡ Some goal)
proof_passes P budget goal counts (Bests.Best s g) h found proof =
    (subst (λ (k : Log). Passes P k) (sym proof.1) found.0.1.0, ap (λ (k : Log). k.goal) proof.1 ∙ found.0.1.1 ∙ ap Some (sym proof.0))
proof_passes P budget goal counts (Bests.NoRoster g) h found proof =
    (subst (λ (k : Log). Passes P k) (sym proof.1) found.0.0, ap (λ (k : Log). k.goal) proof.1 ∙ found.0.1 ∙ ap Some (sym proof.0))
proof_passes P budget goal counts (Bests.Undecided s g) h found proof = absurd proof

pub best_proofs_accepted : BestProofsAreAccepted
best_proofs_accepted file P budget goal counts found g a spells best proof short h =
    let passes = proof_passes P budget goal counts found g best.2.1 proof in
    (passes.1, settled CheckFree P (log_text P g) (Jobs.Check (Checks.Accepted (shown_by g))) a (valid_keeps P spells.valid) best.2.0 short (λ y h. h) (text_accepted P WithGoal g (with_goal P g goal passes.0.grounded.fits passes.1) passes.0) h)

-- what `fill` writes

pub filled_rosters_meet : FilledRostersMeet
filled_rosters_meet file P budget told s a spells filled h = meets P file s.cells a spells filled.2.1.2.2.1.0 h

-- what an answer of `fill` says of a refutation is that it passes, behind the cells that the second file gives
pub fill_logs_accepted : FillLogsAreAccepted
fill_logs_accepted file P budget told g a spells filled short h =
    let proof = filled.2.1.2.2 in
    let of_kind : kind_of_log g ≡ WithCells = ap (λ (o : Opening). kind_by o g.goal) proof.gives.1 in
    settled CheckFill P (log_text P g) (Jobs.Check (Checks.Accepted (shown_by g))) a (valid_keeps P spells.valid) filled.2.0 short (λ y h. h) (text_accepted P WithCells g of_kind proof.passes) h

pub same_for_workers : WorkersMakeNoDifference
same_for_workers m n name second told P (Refused (Unfit why)) h = h
same_for_workers m n name second told P (Refused (TooLong kind)) h = h
same_for_workers m n name second told P (Job (Jobs.Check a)) h = h
same_for_workers m n name second told P (Job a) h = absurd h.1.2
same_for_workers m n name second told P (Explained words) h = absurd h.1
same_for_workers m n name second told P a h = absurd h

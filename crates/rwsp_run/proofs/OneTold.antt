-- An answer has one text of words.
use Rattle.std.proofs.Common.{◌≡◌, ℕ, List, ◌++◌, ap, refl, sym, ◌∙◌, subst}
use Rattle.std.specs.Prelude.{◌≢◌, Option, Some, None}
use Rattle.rwsp_io.specs.Told.{Told, Silent}
use Rattle.rwsp_terms.specs.Instance.{Instance}
use Rattle.rwsp_model.specs.Validity.{KeepsLimits}
use Rattle.rwsp_model.proofs.Limits.{valid_keeps}
use Rattle.rwsp_file.specs.Laws.{TextsSpellOne}
use Rattle.rwsp_file.specs.Spelling.{SpellsProblem}
use Rattle.rwsp_file.specs.LongNumbers.{long_numbers}
use Rattle.plain_words.specs.Sentences.{slip_lines}
use Rattle.plain_words.specs.declared.problem.Telling.{Telling}
use Rattle.command_line.specs.Commands.{file_of}
use Rattle.command_line.specs.declared.command.Command.{Command}
use Rattle.command_line.proofs.OneForm.{one_form}
use Rattle.commands.specs.declared.problem_file.Subject.{Subject}
use Rattle.commands.proofs.ProblemFiles.{one_problem_refusal_told}
use Rattle.commands.proofs.Told.{one_plan_told, one_best_told, one_staff_told, one_verify_told, one_check_told, one_check_staff_told, one_reduce_told, one_crew_told, one_mend_told, one_rest_told, one_page_told, one_ics_told, one_on_told, one_roster_told, one_fill_told}
use Rattle.rwsp_run.specs.Commands.{IsJobTold, slips_behind}
use Rattle.rwsp_run.specs.Told.{slips_told, IsRefusalTold, IsToldBy, IsSubjectFor}
use Rattle.rwsp_run.specs.Laws.{WordsAreOne}
use Rattle.rwsp_run.specs.declared.jobs.JobAnswer.{JobAnswer}
use Rattle.rwsp_run.specs.declared.jobs.JobAnswer.TheVariants as Jobs
use Rattle.rwsp_run.specs.declared.answer.Refusal.{Refusal}
use Rattle.rwsp_run.specs.declared.answer.Refusal.TheVariants.{Usage, Horizon, Problem, Unfit, TooLong}
use Rattle.rwsp_run.specs.declared.answer.Answer.TheVariants.{Refused, Trial, Job, Explained}
use Rattle.rwsp_run.proofs.Files.{same_bytes}

-- the words on a job's answer
one_job : (P : Instance) (a : JobAnswer) (text other : List ℕ) → KeepsLimits P → IsJobTold P a text → IsJobTold P a other → text ≡ other
one_job P Jobs.Show text other limits h k = h ∙ sym k
one_job P (Jobs.Plan a) text other limits h k = one_plan_told P a text other limits h k
one_job P (Jobs.Best a) text other limits h k = one_best_told P a text other limits h k
one_job P (Jobs.Staff a) text other limits h k = one_staff_told P a text other limits h k
one_job P (Jobs.Verify a) text other limits h k = one_verify_told P a text other limits h k
one_job P (Jobs.Check a) text other limits h k = one_check_told P a text other limits h k
one_job P (Jobs.CheckStaff a) text other limits h k = one_check_staff_told P a text other limits h k
one_job P (Jobs.Reduce a) text other limits h k = one_reduce_told P a text other limits h k
one_job P (Jobs.Crew a) text other limits h k = one_crew_told P a text other limits h k
one_job P (Jobs.Mend a) text other limits h k = one_mend_told P a text other limits h k
one_job P (Jobs.Rest a) text other limits h k = one_rest_told P a text other limits h k
one_job P (Jobs.Page a) text other limits h k = one_page_told P a text other limits h k
one_job P (Jobs.Ics a) text other limits h k = one_ics_told P a text other limits h k
one_job P (Jobs.On a) text other limits h k = one_on_told P a text other limits h k
one_job P (Jobs.Roster a) text other limits h k = one_roster_told P a text other limits h k
one_job P (Jobs.Fill a) text other limits h k = one_fill_told P a text other limits h k

-- and on a refusal
one_refusal : (why : Refusal) (text other : List ℕ) → IsRefusalTold why text → IsRefusalTold why other → text ≡ other
one_refusal (Problem why) text other h k = one_problem_refusal_told why text other h k
one_refusal Usage text other h k = h ∙ sym k
one_refusal Horizon text other h k = h ∙ sym k
one_refusal (Unfit why) text other h k = h ∙ sym k
one_refusal (TooLong kind) text other h k = h ∙ sym k

-- what looks like a slip goes by the problem and its file
same_slips : (telling : Option Telling) (s t : Subject) → s.file ≡ t.file → s.problem ≡ t.problem → slips_told s telling ≡ slips_told t telling
same_slips None s t file problem = refl
same_slips (Some telling) s t file problem =
    ap (λ (P : Instance). slip_lines telling P (long_numbers s.file)) problem ∙ ap (λ (b : List ℕ). slip_lines telling t.problem (long_numbers b)) file

-- a file has one problem, and so one subject
one_by : TextsSpellOne → (told : Told) (a : JobAnswer) (s t : Option Subject) (text other : List ℕ) → told ≢ Silent → IsSubjectFor told (Job a) s → IsSubjectFor told (Job a) t → IsToldBy (Job a) s text → IsToldBy (Job a) t other → text ≡ other
one_by one told a None t text other there h k said also = absurd said
one_by one told a (Some s) None text other there h k said also = absurd also
one_by one told a (Some s) (Some t) text other there h k said also =
    let file : t.file ≡ s.file = same_bytes told _ _ (t.file ≡ s.file) there (λ bytes x y. x ∙ sym y) k.0.0 h.0.0 in
    let problem : t.problem ≡ s.problem = one s.file t.problem s.problem (subst (λ (b : List ℕ). SpellsProblem b t.problem) file k.0.2) h.0.2 in
    let words : said.0 ≡ also.0 = one_job s.problem a said.0 also.0 (valid_keeps s.problem h.0.2.valid) said.1 (subst (λ (P : Instance). IsJobTold P a also.0) problem also.1) in
    let slips : slips_told s (slips_behind a) ≡ slips_told t (slips_behind a) = same_slips (slips_behind a) s t (sym file) (sym problem) in
    said.2 ∙ ap (λ (w : List ℕ). w ++ slips_told s (slips_behind a)) words ∙ ap (λ (l : List ℕ). also.0 ++ l) slips ∙ sym also.2

pub one_told : TextsSpellOne → WordsAreOne
one_told one held words (Refused why) text other there h k = one_refusal why text other h.2 k.2
one_told one held words (Trial trial) text other there h k = h.2 ∙ sym k.2
one_told one held words (Explained said) text other there h k = h.2 ∙ sym k.2
one_told one held words (Job a) text other there h k =
    let command : k.1.0 ≡ h.1.0 = one_form words k.1.0 h.1.0 k.1.1.0 h.1.1.0 in
    let also = subst (λ (c : Command). IsSubjectFor (held (file_of c)) (Job a) k.0) command k.1.2 in
    one_by one (held (file_of h.1.0)) a h.0 k.0 text other (there h.1.0 h.1.1) h.1.2 also h.2 k.2

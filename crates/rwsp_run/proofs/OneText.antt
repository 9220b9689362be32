-- An answer has one text.
use Rattle.std.proofs.Common.{◌≡◌, ap, sym, ◌∙◌, subst}
use Rattle.rwsp_terms.specs.Instance.{Instance}
use Rattle.rwsp_file.specs.Laws.{TextsSpellOne}
use Rattle.made_problems.proofs.OneProblem.{same_generated}
use Rattle.command_line.specs.Commands.{file_of}
use Rattle.command_line.specs.declared.command.Command.{Command}
use Rattle.command_line.proofs.OneForm.{one_form}
use Rattle.commands.specs.Trial.{trial_text}
use Rattle.rwsp_run.specs.Commands.{job_text}
use Rattle.rwsp_run.specs.Texts.{IsTextFor}
use Rattle.rwsp_run.specs.Laws.{TextsAreOne}
use Rattle.rwsp_run.specs.declared.answer.Answer.TheVariants.{Refused, Trial, Job, Explained}
use Rattle.rwsp_run.proofs.Files.{same_problem}

pub one_text : TextsSpellOne → TextsAreOne
one_text one held words (Refused why) text other there h k = h ∙ sym k
one_text one held words (Trial trial) text other there h k =
    let same : h.0 ≡ k.0 = same_generated trial.number trial.weeks h.0 k.0 h.1 k.1 in
    h.2 ∙ ap (λ (P : Instance). trial_text P trial) same ∙ sym k.2
one_text one held words (Explained said) text other there h k = h ∙ sym k
one_text one held words (Job a) text other there h k =
    let command : k.0 ≡ h.0 = one_form words k.0 h.0 k.1.0 h.1.0 in
    let also = subst (λ (c : Command). IsTextFor (held (file_of c)) (Job a) other) command k.2 in
    let same : h.2.0 ≡ also.0 = same_problem one (held (file_of h.0)) h.2.0 also.0 (there h.0 h.1) h.2.1 also.1 in
    h.2.3 ∙ ap (λ (P : Instance). job_text P a) same ∙ sym also.3

-- `explain` refuses a problem's file where the reader does.
use Rattle.std.proofs.Common.{◌≡◌, ℕ, List, Some, ap, ◌∙◌, refl, subst}
use Rattle.std.specs.Prelude.{◌↔◌}
use Rattle.rwsp_io.specs.Told.{Told, Bytes}
use Rattle.rwsp_terms.specs.Instance.{Instance}
use Rattle.rwsp_file.specs.Reading.{file_refusal}
use Rattle.rwsp_file.specs.Laws.{TextsSpellOrFail}
use Rattle.rwsp_file.specs.declared.refusal.FileRefusal.{FileRefusal}
use Rattle.command_line.specs.Commands.{second_of}
use Rattle.command_line.specs.declared.command.Command.TheVariants.{Explain}
use Rattle.commands.specs.Files.{WhereTold}
use Rattle.commands.specs.ProblemFile.{IsProblemOf, IsProblemRefusal, IsShortFile}
use Rattle.commands.specs.Explain.{IsRefusalOf}
use Rattle.commands.specs.declared.problem_file.ProblemRefusal.{ProblemRefusal}
use Rattle.commands.specs.declared.problem_file.ProblemRefusal.TheVariants as ProblemRefusals
use Rattle.commands.specs.declared.explain.Answer.{Answer as Explanation}
use Rattle.commands.specs.declared.explain.Answer.TheVariants as Explanations
use Rattle.commands.proofs.ProblemFiles.{not_refused}
use Rattle.commands.proofs.Explained.{refused_of, is_wording}
use Rattle.rwsp_run.specs.Answers.{IsAnswerOn, IsExplanation, IsRefusalExplained}
use Rattle.rwsp_run.specs.Laws.{RefusalsAreTheReaders}
use Rattle.rwsp_run.specs.declared.answer.Answer.{Answer}
use Rattle.rwsp_run.specs.declared.answer.Answer.TheVariants.{Explained}
use Rattle.rwsp_run.proofs.Files.{beyond}
use Rattle.rwsp_run.proofs.OneAnswer.{FileEnd, refused, worded, spelled, file_end, HasLine}

-- no line is written of a file that isn't too long
no_line : (name file : List ℕ) (why : ProblemRefusal) → HasLine (Explain name) why → IsShortFile file → IsProblemRefusal file why → ⊥
no_line name file ProblemRefusals.TooLong line short long = beyond _ file file refl long short
no_line name file (ProblemRefusals.Refused why bytes) line short h = line

-- what is said of a problem is no refusal
no_refusal : (name : List ℕ) (told : Told) (P : Instance) (text : List ℕ) → IsExplanation (Explain name) told P (Explanations.Refused text) → ⊥
no_refusal name told P text h = let e = h.3 in absurd (cc)

by_end : TextsSpellOrFail → (held : List ℕ → Told) (name file : List ℕ) (a : Answer) → held name ≡ Bytes file → IsShortFile file → FileEnd (Explain name) held a → ((text : List ℕ) × (a ≡ Explained (Explanations.Refused text))) ↔ ((why : FileRefusal) × (file_refusal file ≡ Some why))
by_end decide held name file a e short (refused why line h f) =
    absurd (no_line name file why line short (subst (λ (t : Told). WhereTold t (λ file. IsProblemRefusal file why)) e h))
by_end decide held name file a e short (worded words is h f) =
    let read : IsRefusalExplained (Bytes file) words = subst (λ (t : Told). IsRefusalExplained t words) e h in
    let wording = is_wording file words (subst (λ (b : List ℕ). IsRefusalOf b words) read.1 read.3) in
    (λ said. refused_of file wording.0 wording.2, λ refusal. (wording.0, f ∙ ap (λ (w : Explanation). Explained w) wording.1))
by_end decide held name file a e short (spelled P r h) =
    let read = subst (λ (t : Told). IsProblemOf t P) e r in (
      λ said. absurd (no_refusal name (held (second_of (Explain name))) P said.0 (subst (λ (b : Answer). IsAnswerOn (Explain name) (held (second_of (Explain name))) P b) said.1 h).1),
      λ refusal. absurd (not_refused decide file P (ProblemRefusals.Refused refusal.0 file) short read.1 (short, refusal.1, refl)),
    )

pub refused_alike : TextsSpellOrFail → RefusalsAreTheReaders
refused_alike decide held name file a e short h = by_end decide held name file a e short (file_end (Explain name) held a tt h)

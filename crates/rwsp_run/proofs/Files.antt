-- What is known of files whose bytes are told.
use Rattle.std.proofs.Common.{◌≡◌, ℕ, ◌<◌, ◌≤◌, List, length, refl, subst, sym, ◌∙◌, arith, inl}
use Rattle.std.specs.Prelude.{◌≢◌, Some, None}
use Rattle.rwsp_io.specs.Told.{Told, Silent, Missing, Bytes}
use Rattle.rwsp_terms.specs.Instance.{Instance}
use Rattle.rwsp_model.specs.Validity.{KeepsLimits}
use Rattle.rwsp_model.proofs.Limits.{valid_keeps}
use Rattle.rwsp_file.specs.Laws.{TextsSpellOne}
use Rattle.commands.specs.Files.{WhereTold, Holds, IsSecond, IsTooLong}
use Rattle.rwsp_file.specs.declared.refusal.FileRefusal.{FileRefusal}
use Rattle.commands.specs.ProblemFile.{IsProblemOf, IsProblemRefusal, IsRefusedFile}
use Rattle.commands.specs.declared.problem_file.ProblemRefusal.{ProblemRefusal}
use Rattle.commands.specs.declared.problem_file.ProblemRefusal.TheVariants.{TooLong, Refused}
use Rattle.commands.specs.declared.explain.Answer.{Answer as Explanation}
use Rattle.command_line.specs.declared.command.Command.TheVariants.{Explain}
use Rattle.rwsp_run.specs.Answers.{IsAnswerTo, IsSaidOfRefusal}
use Rattle.rwsp_run.specs.declared.answer.Refusal.TheVariants as Refusals
use Rattle.rwsp_run.specs.declared.answer.Answer.TheVariants as Answers
use Rattle.rwsp_run.specs.declared.answer.Answer.TheVariants.{Explained}
use Rattle.commands.specs.declared.second_file.SecondKind.{SecondKind}

-- two facts about a file of which something is told are about the same bytes
pub same_bytes : (told : Told) (Q R : List ℕ → Type 0) (Same : Type 0) → told ≢ Silent → ((bytes : List ℕ) → Q bytes → R bytes → Same) → WhereTold told Q → WhereTold told R → Same
same_bytes Silent Q R Same there one h k = absurd (there refl)
same_bytes Missing Q R Same there one h k = absurd h
same_bytes (Bytes bytes) Q R Same there one h k = one bytes h k

-- and so a file spells one problem
pub same_problem : TextsSpellOne → (told : Told) (P Q : Instance) → told ≢ Silent → IsProblemOf told P → IsProblemOf told Q → P ≡ Q
same_problem one told P Q there h k = same_bytes told _ _ (P ≡ Q) there (λ file x y. one file P Q x.1 y.1) h k

pub keeps_limits : (told : Told) (P : Instance) → told ≢ Silent → IsProblemOf told P → KeepsLimits P
keeps_limits told P there h = same_bytes told _ _ (KeepsLimits P) there (λ file x y. valid_keeps P x.1.valid) h h

-- a second file has one row of bytes
pub same_second : (kind : SecondKind) (told : Told) (a b : List ℕ) → told ≢ Silent → IsSecond kind told a → IsSecond kind told b → a ≡ b
same_second kind told a b there h k = same_bytes told _ _ (a ≡ b) there (λ bytes x y. x ∙ sym y) h.0 k.0

pub beyond : (limit : ℕ) (a bytes : List ℕ) → a ≡ bytes → limit < length bytes → length a ≤ limit → ⊥
beyond limit a bytes e long short = let no : limit < length a = subst (λ (b : List ℕ). limit < length b) (sym e) long in omega (arith, no, short)

pub not_too_long : (kind k : SecondKind) (told : Told) (a : List ℕ) → k ≡ kind → told ≢ Silent → IsSecond kind told a → WhereTold told (IsTooLong k) → ⊥
not_too_long kind k told a e there h long =
    let short = subst (λ (j : SecondKind). IsSecond j told a) (sym e) h in
    same_bytes told _ _ ⊥ there (λ bytes x y. beyond _ _ _ x y short.1) short.0 long

-- a refusal keeps the bytes that are held
kept_bytes : (told : Told) (why : FileRefusal) (bytes : List ℕ) → WhereTold told (λ file. IsProblemRefusal file (Refused why bytes)) → Holds told bytes
kept_bytes Silent why bytes h = tt
kept_bytes Missing why bytes h = absurd h
kept_bytes (Bytes file) why bytes h = h.2

-- so the words on it are those on the file
pub refusal_said : (held : List ℕ → Told) (name : List ℕ) (why : ProblemRefusal) (words : Explanation) → WhereTold (held name) (λ file. IsProblemRefusal file why) → IsRefusedFile why → IsSaidOfRefusal why (Some words) → IsAnswerTo (Explain name) held (Explained words)
refusal_said held name TooLong words read refused said = let none : Some words ≡ None = said in absurd (cc)
refusal_said held name (Refused why bytes) words read refused said = inl (bytes, kept_bytes (held name) why bytes read, refused.0, said)

-- where there are none, the file is too long
pub refusal_printed : (held : List ℕ → Told) (name : List ℕ) (why : ProblemRefusal) → WhereTold (held name) (λ file. IsProblemRefusal file why) → IsSaidOfRefusal why None → IsAnswerTo (Explain name) held (Answers.Refused (Refusals.Problem why))
refusal_printed held name TooLong read said = (refl, read)
refusal_printed held name (Refused why bytes) read said = absurd said

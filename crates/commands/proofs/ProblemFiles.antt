-- A problem's file spells a problem, or has one refusal.
use Rattle.std.proofs.Common.{◌≡◌, ℕ, ◌<◌, ◌≤◌, List, Some, None, Option, arith, ap, sym, ◌∙◌, refl}
use Rattle.std.specs.Prelude.{MatchOption}
use Rattle.rwsp_terms.specs.Instance.{Instance}
use Rattle.rwsp_file.specs.Spelling.{SpellsProblem}
use Rattle.rwsp_file.specs.Reading.{file_refusal}
use Rattle.rwsp_file.specs.RefusalWords.{refusal_words}
use Rattle.rwsp_file.specs.Laws.{TextsSpellOrFail}
use Rattle.rwsp_file.specs.declared.refusal.FileRefusal.{FileRefusal}
use Rattle.commands.specs.ProblemFile.{IsShortFile, IsProblemRefusal, IsProblemRefusalTold}
use Rattle.commands.specs.Told.{behind_rwsp}
use Rattle.commands.specs.declared.problem_file.ProblemRefusal.{ProblemRefusal}
use Rattle.commands.specs.declared.problem_file.ProblemRefusal.TheVariants.{TooLong, Refused}

not_both : (limit n : ℕ) → limit < n → n ≤ limit → ⊥
not_both limit n long short = omega arith

refused_alike : (why other : FileRefusal) (bytes same : List ℕ) → why ≡ other → bytes ≡ same → Refused why bytes ≡ Refused other same
refused_alike why other bytes same e f = cc

some_alike : {X : Type 0} (x y : X) (o : Option X) → o ≡ Some x → o ≡ Some y → x ≡ y
some_alike x y o e f = let both : Some x ≡ Some y = sym e ∙ f in cc

pub one_refusal : (file : List ℕ) (a b : ProblemRefusal) → IsProblemRefusal file a → IsProblemRefusal file b → a ≡ b
one_refusal file TooLong TooLong h k = refl
one_refusal file TooLong (Refused why bytes) h k = absurd (not_both _ _ h k.0)
one_refusal file (Refused why bytes) TooLong h k = absurd (not_both _ _ k h.0)
one_refusal file (Refused why bytes) (Refused other same) h k =
    refused_alike why other bytes same (some_alike why other (file_refusal file) h.1 k.1) (h.2 ∙ sym k.2)

unread_by : (file : List ℕ) (P : Instance) (why : FileRefusal) (o : Option FileRefusal) → o ≡ Some why → MatchOption o ((P : Instance) × SpellsProblem file P) (λ why. (P : Instance) → SpellsProblem file P → ⊥) → SpellsProblem file P → ⊥
unread_by file P why None e m spells = absurd (cc)
unread_by file P why (Some other) e m spells = m P spells

-- the reader refuses no file that spells an instance
pub not_unread : TextsSpellOrFail → (file : List ℕ) (P : Instance) (why : FileRefusal) → SpellsProblem file P → file_refusal file ≡ Some why → ⊥
not_unread decide file P why spells e = unread_by file P why (file_refusal file) e (decide file) spells

-- so it isn't refused
pub not_refused : TextsSpellOrFail → (file : List ℕ) (P : Instance) (why : ProblemRefusal) → IsShortFile file → SpellsProblem file P → IsProblemRefusal file why → ⊥
not_refused decide file P TooLong short spells h = not_both _ _ h short
not_refused decide file P (Refused why bytes) short spells h = not_unread decide file P why spells h.1

-- of a refusal one text is told
pub one_problem_refusal_told : (why : ProblemRefusal) (text other : List ℕ) → IsProblemRefusalTold why text → IsProblemRefusalTold why other → text ≡ other
one_problem_refusal_told TooLong text other h k = h ∙ sym k
one_problem_refusal_told (Refused why bytes) text other h k =
    h.2 ∙ ap behind_rwsp (some_alike h.0 k.0 (refusal_words bytes) h.1 k.1) ∙ sym k.2

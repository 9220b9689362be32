-- A problem's file has words for its refusal exactly where it spells no problem.
use Rattle.std.proofs.Common.{◌≡◌, ℕ, List, Some, None, Option, ap, sym, ◌∙◌, refl}
use Rattle.std.specs.Prelude.{MatchOption, ◌++◌, codes}
use Rattle.std.specs.Fmt.{decimal}
use Rattle.rwsp_terms.specs.Instance.{Instance}
use Rattle.rwsp_file.specs.Spelling.{SpellsProblem}
use Rattle.rwsp_file.specs.Reading.{file_refusal}
use Rattle.rwsp_file.specs.Laws.{TextsSpellOrFail}
use Rattle.rwsp_file.specs.RefusalText.{refused_line}
use Rattle.rwsp_file.specs.RefusalWords.{refusal_words}
use Rattle.rwsp_file.specs.declared.refusal.FileRefusal.{FileRefusal}
use Rattle.rwsp_file.proofs.Explained.{refusals_are_explained}
use Rattle.commands.specs.Explain.{IsRefusalOf}
use Rattle.commands.specs.declared.explain.Answer.{Answer}
use Rattle.commands.specs.declared.explain.Answer.TheVariants.{Refused}

-- a refused file has some words
abbrev HasWords : List ℕ → Option FileRefusal → Type 0
HasWords file o = MatchOption o (refusal_words file ≡ None) (λ why. (words : List ℕ) × (refusal_words file ≡ Some words))

some_words : (file : List ℕ) (o : Option FileRefusal) → MatchOption o (refusal_words file ≡ None) (λ why. (words : List ℕ) × (refusal_words file ≡ Some (codes "line " ++ decimal (refused_line why) ++ codes ": " ++ words))) → HasWords file o
some_words file None m = m
some_words file (Some why) m = (codes "line " ++ decimal (refused_line why) ++ codes ": " ++ m.0, m.1)

explained : (file : List ℕ) → HasWords file (file_refusal file)
explained file = some_words file (file_refusal file) (refusals_are_explained file)

words_by : (file : List ℕ) (why : FileRefusal) (o : Option FileRefusal) → o ≡ Some why → HasWords file o → refusal_words file ≡ None → ⊥
words_by file why None e m none = absurd (cc)
words_by file why (Some other) e m none =
    let words = m.1 in
    absurd (cc)

pub has_words : (file : List ℕ) (why : FileRefusal) → file_refusal file ≡ Some why → refusal_words file ≡ None → ⊥
has_words file why e none = words_by file why (file_refusal file) e (explained file) none

-- the words are one row of bytes
pub one_wording : (file : List ℕ) (v w : Answer) → IsRefusalOf file v → IsRefusalOf file w → v ≡ w
one_wording file (Refused s) (Refused t) h k =
    let both : Some s ≡ Some t = sym h ∙ k in
    let same : s ≡ t = cc in
    ap Refused same
one_wording file (Refused s) w h k = absurd k
one_wording file v w h k = absurd h

spelled_by : (file : List ℕ) (P : Instance) (text : List ℕ) (o : Option FileRefusal) → MatchOption o ((P : Instance) × SpellsProblem file P) (λ why. (P : Instance) → SpellsProblem file P → ⊥) → HasWords file o → SpellsProblem file P → refusal_words file ≡ Some text → ⊥
spelled_by file P text None m none spells h = absurd (cc)
spelled_by file P text (Some why) m none spells h = m P spells

-- a file that spells an instance has none
pub not_worded : TextsSpellOrFail → (file : List ℕ) (P : Instance) (words : Answer) → SpellsProblem file P → IsRefusalOf file words → ⊥
not_worded decide file P (Refused text) spells h = spelled_by file P text (file_refusal file) (decide file) (explained file) spells h
not_worded decide file P words spells h = absurd h

-- what the words of a refusal are
pub is_wording : (file : List ℕ) (words : Answer) → IsRefusalOf file words → (text : List ℕ) × (words ≡ Refused text) × (refusal_words file ≡ Some text)
is_wording file (Refused text) h = (text, refl, h)
is_wording file words h = absurd h

refused_by : (file text : List ℕ) (o : Option FileRefusal) → HasWords file o → refusal_words file ≡ Some text → (why : FileRefusal) × (o ≡ Some why)
refused_by file text None none h = absurd (cc)
refused_by file text (Some why) words h = (why, refl)

-- a file that has words is refused
pub refused_of : (file text : List ℕ) → refusal_words file ≡ Some text → (why : FileRefusal) × (file_refusal file ≡ Some why)
refused_of file text h = refused_by file text (file_refusal file) (explained file) h

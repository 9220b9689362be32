-- Laws of texts, instances and refusals.
use Rattle.std.specs.Prelude.{◌≡◌, ℕ, ◌≤◌, List, ◌++◌, length, Some, None, MatchOption, codes}
use Rattle.std.specs.Fmt.{decimal}
use Rattle.rwsp_terms.specs.declared.limits.TheConstants.{LONGEST_FILE}
use Rattle.rwsp_terms.specs.Instance.{Instance}
use Rattle.rwsp_model.specs.Validity.{IsValid}
use Rattle.rwsp_file.specs.Spelling.{SpellsProblem}
use Rattle.rwsp_file.specs.Reading.{file_refusal}
use Rattle.rwsp_file.specs.Text.{problem_text}
use Rattle.rwsp_file.specs.RefusalText.{refused_line}
use Rattle.rwsp_file.specs.RefusalWords.{refusal_words}

-- a text spells at most one instance
abbrev pub TextsSpellOne : Type 0
TextsSpellOne = (bytes : List ℕ) (P Q : Instance) → SpellsProblem bytes P → SpellsProblem bytes Q → P ≡ Q

-- a text that has no first failure spells an instance, and one that has one spells none
abbrev pub TextsSpellOrFail : Type 0
TextsSpellOrFail =
    (bytes : List ℕ)
    → MatchOption (file_refusal bytes)
    ((P : Instance) × SpellsProblem bytes P)
    (λ why. (P : Instance) → SpellsProblem bytes P → ⊥)

-- the canonical text of a valid instance spells it and no other
abbrev pub CanonicalTextsSpell : Type 0
CanonicalTextsSpell =
    (P : Instance) → IsValid P
    → SpellsProblem (problem_text P) P × ((Q : Instance) → SpellsProblem (problem_text P) Q → Q ≡ P)

-- and is short enough to be read again
abbrev pub CanonicalTextsAreShort : Type 0
CanonicalTextsAreShort = (P : Instance) → IsValid P → length (problem_text P) ≤ LONGEST_FILE

-- a text is explained exactly where it is refused, and at the line of the refusal
abbrev pub RefusalsAreExplained : Type 0
RefusalsAreExplained =
    (bytes : List ℕ)
    → MatchOption (file_refusal bytes)
    (refusal_words bytes ≡ None)
    (λ why. (words : List ℕ)
    × (refusal_words bytes ≡ Some (codes "line " ++ decimal (refused_line why) ++ codes ": " ++ words)))

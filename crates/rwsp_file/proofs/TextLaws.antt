-- The laws of texts, instances and refusals.
use Rattle.std.proofs.Common.{◌≡◌, ℕ, List, [], ◌++◌, Result, Ok, Err, refl, ap, sym, ◌∙◌, subst, append-nil}
use Rattle.std.specs.Prelude.{MatchOption}
use Rattle.std.specs.Option.{option_map}
use Rattle.rwsp_text.specs.Lexemes.{lexemes}
use Rattle.rwsp_terms.specs.Instance.{Instance}
use Rattle.rwsp_model.proofs.Limits.{valid_keeps}
use Rattle.rwsp_file.specs.Spelling.{FileField, Spell, file_fields, SpellsProblem}
use Rattle.rwsp_file.specs.Reading.{reading, unread_of, misfit_in}
use Rattle.rwsp_file.specs.Misfits.{refusal_of}
use Rattle.rwsp_file.specs.Laws.{TextsSpellOne, TextsSpellOrFail}
use Rattle.rwsp_file.specs.declared.misfit.Misfit.{Misfit}
use Rattle.rwsp_file.proofs.Readers.{ok_same, given}
use Rattle.rwsp_file.proofs.Awaited.{Makes, read_makes, makes_read}
use Rattle.rwsp_file.proofs.Awaited.Awaited.{End}
use Rattle.rwsp_file.proofs.Parts.{IsRead, instance_is, whole_text, whole_read}
use Rattle.rwsp_file.proofs.WordForms.{lexemes_are_words}
use Rattle.rwsp_file.proofs.Valid.{read_valid, keeps_read, names_spelled}

-- what is read of a text, the text spells
pub reading_spells : (bytes : List ℕ) (P : Instance) → reading (unread_of bytes) ≡ Ok P → SpellsProblem bytes P
reading_spells bytes P e =
    let m : (fs : List FileField) × Makes whole_text fs P × Spell fs (lexemes bytes) = read_makes whole_text (unread_of bytes) P (whole_read (unread_of bytes) ∙ e) in
    let i = instance_is.found End m.0 P m.1 in
    let same : m.0 ≡ file_fields P = i.3 ∙ ap (λ (gs : List FileField). file_fields i.0 ++ gs) i.4.0 ∙ append-nil (file_fields i.0) ∙ ap file_fields (sym i.4.1) in
    let spelled : Spell (file_fields P) (lexemes bytes) = subst (λ (fs : List FileField). Spell fs (lexemes bytes)) same m.2 in
    record { valid = read_valid P (subst IsRead (sym i.4.1) i.2) (names_spelled P (lexemes bytes) spelled (lexemes_are_words bytes)); text = spelled }

-- what a text spells is read of it
pub spells_reading : (bytes : List ℕ) (P : Instance) → SpellsProblem bytes P → reading (unread_of bytes) ≡ Ok P
spells_reading bytes P s =
    let m : Makes whole_text (file_fields P ++ []) P = instance_is.only End P [] P (keeps_read P (valid_keeps P s.valid)) (refl, refl) in
    sym (whole_read (unread_of bytes)) ∙ makes_read whole_text (unread_of bytes) (file_fields P) P (subst (λ (fs : List FileField). Makes whole_text fs P) (append-nil (file_fields P)) m) s.text

pub texts_spell_one : TextsSpellOne
texts_spell_one bytes P Q s t = ok_same P Q (sym (spells_reading bytes P s) ∙ spells_reading bytes Q t)

differ : (P : Instance) (why : Misfit) → given P ≡ Err why → ⊥
differ P why e = absurd (cc)

pub texts_spell_or_fail : TextsSpellOrFail
texts_spell_or_fail bytes = at (reading (unread_of bytes)) refl where
  at : (r : Result Instance Misfit) → reading (unread_of bytes) ≡ r → MatchOption (option_map refusal_of (misfit_in r)) ((P : Instance) × SpellsProblem bytes P) (λ why. (P : Instance) → SpellsProblem bytes P → ⊥)
  at (Ok P) e = (P, reading_spells bytes P e)
  at (Err why) e = λ P s. differ P why (sym (spells_reading bytes P s) ∙ e)

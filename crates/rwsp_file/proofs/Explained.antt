-- Refusals and their words.
use Rattle.std.proofs.Common.{◌≡◌, ℕ, List, [], ◌∷◌, ◌++◌, Option, Some, None, refl, ap, sym, ◌∙◌, append_assoc, codes, decimal, MatchOption}
use Rattle.std.specs.Option.{option_map}
use Rattle.rwsp_file.specs.Misfits.{refusal_of, refusal_on}
use Rattle.rwsp_text.specs.Lexemes.{Lexeme}
use Rattle.rwsp_file.specs.Reading.{Unread, unread_of, first_misfit}
use Rattle.rwsp_file.specs.RefusalText.{refused_line}
use Rattle.rwsp_file.specs.LikelyCauses.{end_cause, bad_word_cause}
use Rattle.rwsp_file.specs.RefusalWords.{shown_word, place_text, fault_text, cause_line, misfit_words}
use Rattle.rwsp_file.specs.Laws.{RefusalsAreExplained}
use Rattle.rwsp_file.specs.declared.refusal.FileRefusal.{FileRefusal}
use Rattle.rwsp_file.specs.declared.refusal.FileRefusal.TheVariants.{Ends}
use Rattle.rwsp_file.specs.declared.misfit.Place.{Place}
use Rattle.rwsp_file.specs.declared.misfit.Fault.{Fault}
use Rattle.rwsp_file.specs.declared.misfit.Fault.TheVariants.{NoNumber, Beyond, TooManyDays, WordCount, LongName, OffName, TakenName, NoSymbol, NotEnd}
use Rattle.rwsp_file.specs.declared.misfit.Misfit.{Misfit}
use Rattle.rwsp_file.specs.declared.misfit.Misfit.TheVariants.{TextEnds, BadWord}

-- a word is refused at its line
line_of_fault : (line : ℕ) (fault : Fault) → refused_line (refusal_on line fault) ≡ line
line_of_fault line NoNumber = refl
line_of_fault line (Beyond limit) = refl
line_of_fault line (TooManyDays weeks days) = refl
line_of_fault line (WordCount words) = refl
line_of_fault line LongName = refl
line_of_fault line OffName = refl
line_of_fault line (TakenName shift) = refl
line_of_fault line NoSymbol = refl
line_of_fault line NotEnd = refl

-- the pieces of a line, joined otherwise
ends_joined : (a c t p w rest : List ℕ) → (((a ++ (c ++ t)) ++ p) ++ w) ++ rest ≡ (a ++ c) ++ (((t ++ p) ++ w) ++ rest)
ends_joined a c t p w rest = simp (append_assoc) refl

word_joined : (a w b f rest : List ℕ) → (((a ++ w) ++ b) ++ f) ++ rest ≡ a ++ (((w ++ b) ++ f) ++ rest)
word_joined a w b f rest = simp (append_assoc) refl

abbrev line_text : ℕ → List ℕ → List ℕ
line_text line words = codes "line " ++ decimal line ++ codes ": " ++ words

abbrev Said : List ℕ → FileRefusal → Type 0
Said text why = (words : List ℕ) × (Some text ≡ Some (line_text (refused_line why) words))

ends_said : (u : Unread) (awaited : Place) (line : ℕ) → Said (misfit_words u (TextEnds awaited line)) (Ends line)
ends_said u awaited line =
    let rest : List ℕ = 10 ∷ cause_line [] (end_cause u awaited) in (
      codes "the text ends, but " ++ place_text awaited ++ codes " was awaited" ++ rest,
      ap Some (ends_joined (codes "line " ++ decimal line) (codes ": ") (codes "the text ends, but ") (place_text awaited) (codes " was awaited") rest),
    )

word_said : (u : Unread) (awaited : Place) (w : Lexeme) (fault : Fault) → Said (misfit_words u (BadWord awaited w fault)) (refusal_on w.line fault)
word_said u awaited w fault =
    let rest : List ℕ = 10 ∷ cause_line w.text (bad_word_cause u awaited w fault) in
    let words : List ℕ = shown_word w.text ++ codes ", but " ++ fault_text awaited fault ++ rest in (
      words,
      ap Some (word_joined (codes "line " ++ decimal w.line ++ codes ": ") (shown_word w.text) (codes ", but ") (fault_text awaited fault) rest
          ∙ ap (λ n. line_text n words) (sym (line_of_fault w.line fault))),
    )

said : (u : Unread) (o : Option Misfit) → MatchOption (option_map refusal_of o) (option_map (misfit_words u) o ≡ None) (λ why. (words : List ℕ) × (option_map (misfit_words u) o ≡ Some (line_text (refused_line why) words)))
said u None = refl
said u (Some (TextEnds awaited line)) = ends_said u awaited line
said u (Some (BadWord awaited w fault)) = word_said u awaited w fault

pub refusals_are_explained : RefusalsAreExplained
refusals_are_explained bytes = said (unread_of bytes) (first_misfit bytes)

-- The text of a log's refusal.
use Rattle.std.specs.Prelude.{ℕ, List, ◌∷◌, ◌++◌, codes, All}
use Rattle.std.specs.List.{flat_map}
use Rattle.std.specs.Fmt.{decimal}
use Rattle.rwsp_terms.specs.Instance.{Instance, IsSymbol, name_of}
use Rattle.rwsp_terms.specs.declared.data.Symbol.{Symbol}
use Rattle.refutation_terms.specs.declared.lines.LogRefusal.{LogRefusal}
use Rattle.refutation_terms.specs.declared.lines.LogRefusal.TheVariants as Refusals
use Rattle.rwsp_text.specs.Labels.{at_line}

-- the symbols of a word by their names, each behind a blank
abbrev pub word_text : Instance → List Symbol → List ℕ
word_text P w = flat_map (λ x. 32 ∷ name_of P x) w

abbrev pub log_refusal_text : Instance → LogRefusal → List ℕ
log_refusal_text P (Refusals.Form number) = at_line (codes "log refused: form") number
log_refusal_text P (Refusals.Name number) = at_line (codes "log refused: name") number
log_refusal_text P (Refusals.Unnamed number rule) = at_line (codes "log refused: unnamed " ++ decimal rule) number
log_refusal_text P (Refusals.Idle number) = at_line (codes "log refused: idle") number
log_refusal_text P (Refusals.Long number rule) = at_line (codes "log refused: long " ++ decimal rule) number
log_refusal_text P (Refusals.Fails number) = at_line (codes "log refused: fails") number
log_refusal_text P (Refusals.Escape number w) =
    at_line (codes "log refused: escape") number ++ codes ":" ++ word_text P w
log_refusal_text P (Refusals.Unfinished number) = at_line (codes "log refused: open") number
log_refusal_text P Refusals.Ends = codes "log refused: ends"
log_refusal_text P (Refusals.Extra number) = at_line (codes "log refused: extra") number
log_refusal_text P (Refusals.Turn number) = at_line (codes "log refused: turn") number

-- a word that escapes has symbols of the instance
abbrev pub HasSymbols : Instance → LogRefusal → Type 0
HasSymbols P (Refusals.Escape number w) = All (IsSymbol P) w
HasSymbols P why = Unit {0}

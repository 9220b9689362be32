-- The words of a command line have one form at most.
use Rattle.std.proofs.Common.{◌≡◌, ℕ, List, [], ◌∷◌, Option, Some, None, Bool, true, false, cond, refl, ap, sym, ◌∙◌}
use Rattle.std.specs.Prelude.{MatchOption}
use Rattle.std.specs.Str.{bytes_eq}
use Rattle.rwsp_text.specs.Fields.{Words}
use Rattle.rwsp_text.proofs.Words.{same_bytes}
use Rattle.crew_calendar.specs.Calendar.{Date, IsDateWord}
use Rattle.crew_calendar.proofs.DateWords.{date_in, date_found, date_only}
use Rattle.command_line.specs.Forms.{Form, form_at, named_at}
use Rattle.command_line.specs.Commands.{CommandWords, IsForm}
use Rattle.command_line.specs.declared.command.Command.{Command}

pub one_form : (words : CommandWords) (a b : Command) → IsForm words a → IsForm words b → a ≡ b
one_form words a b h k = let both : Some a ≡ Some b = sym h ∙ k in cc

-- what a word names as a date
pub named_date : (word : List ℕ) (named : Option Date) → MatchOption named ((date : Date) → IsDateWord word date → ⊥) (IsDateWord word) → named ≡ date_in word
named_date word (Some date) names = sym (date_only word date names)
named_date word None none = by (date_in word) refl
  where
    by : (found : Option Date) → date_in word ≡ found → None ≡ date_in word
    by None e = sym e
    by (Some date) e = absurd (none date (date_found word date e))

-- the word is that of no form
abbrev pub NamesNone : {X : Type 0} → List (Form X) → List ℕ → Type 0
NamesNone [] w = Unit {0}
NamesNone (form ∷ forms) w = (w ≡ form.word → ⊥) × NamesNone forms w

differs : (v w : List ℕ) (same : Bool) → bytes_eq v w ≡ same → (v ≡ w → ⊥) → bytes_eq v w ≡ false
differs v w true e apart = absurd (apart (same_bytes v w e))
differs v w false e apart = e

pub none_named : {X : Type 0} (forms : List (Form X)) (w : List ℕ) (ws : Words) → NamesNone forms w → named_at forms w ws ≡ None
none_named [] w ws h = refl
none_named (form ∷ forms) w ws h = ap (λ b. cond b (form_at form ws) (named_at forms w ws)) (differs w form.word _ refl h.0) ∙ none_named forms w ws h.1

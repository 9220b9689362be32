-- Where the words of numbers lead, symbol by symbol.
use Rattle.std.proofs.Common.{◌≡◌, ℕ, ◌+◌, ◌<◌, List, length, drop, get_or, Option, Some, None, ap, sym, ◌∙◌}
use Rattle.std.proofs.lemmas.List.{at_drop_more}
use Rattle.clean_words.specs.Moves.{Moves, move_at, lead}
use Rattle.clean_words.proofs.Leading.{lead_nowhere}
use Rattle.roster_finder.specs.Led.{word_of}

-- a step of a word that leads on: what is left of it leads to the same state from the next
pub leads_on : (moves : Moves) (numbers : List ℕ) (i s n d : ℕ) (next end : Option ℕ) → i < length numbers → n ≡ get_or numbers i d → next ≡ move_at moves s n → lead moves (Some s) (word_of (drop i numbers)) ≡ end → lead moves next (word_of (drop (i + 1) numbers)) ≡ end
leads_on moves numbers i s n d next end less read moved so_far =
    ap (λ (t : Option ℕ). lead moves t (word_of (drop (i + 1) numbers))) (moved ∙ ap (move_at moves s) read)
    ∙ sym (at_drop_more (λ (xs : List ℕ). lead moves (Some s) (word_of xs)) numbers i d less)
    ∙ so_far

-- a symbol that leads nowhere: the word leads nowhere
pub leads_nowhere : (moves : Moves) (numbers : List ℕ) (i s n d : ℕ) (next end : Option ℕ) → i < length numbers → n ≡ get_or numbers i d → next ≡ move_at moves s n → next ≡ None → lead moves (Some s) (word_of (drop i numbers)) ≡ end → end ≡ None
leads_nowhere moves numbers i s n d next end less read moved none so_far =
    sym (leads_on moves numbers i s n d next end less read moved so_far)
    ∙ ap (λ (t : Option ℕ). lead moves t (word_of (drop (i + 1) numbers))) none
    ∙ lead_nowhere moves (word_of (drop (i + 1) numbers))

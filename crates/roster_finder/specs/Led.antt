-- Where words lead whose symbols are given by their numbers.
use Rattle.std.specs.Prelude.{◌≡◌, ℕ, List, map, Option, Some}
use Rattle.rwsp_terms.specs.declared.data.Symbol.{Symbol}
use Rattle.clean_words.specs.Moves.{lead}
use Rattle.clean_words.specs.Automata.{RuleAutomaton, begin_at}

-- the word of symbols with these numbers
abbrev pub word_of : List ℕ → List Symbol
word_of numbers = map (λ n. record { number = n }) numbers

-- where the word of these numbers leads from the state
abbrev pub lead_from : RuleAutomaton → ℕ → List ℕ → Option ℕ
lead_from a state numbers = lead a.moves (Some state) (word_of numbers)

-- read from the first day on the word of these numbers leads to a state, and read once more back to it
abbrev pub LeadsRound : RuleAutomaton → List ℕ → Type 0
LeadsRound a numbers = (s : ℕ) × (lead_from a (begin_at a 0) numbers ≡ Some s) × (lead_from a s numbers ≡ Some s)

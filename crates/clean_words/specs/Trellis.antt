-- The states of an automaton day after day, and the words that lead through them to the end (a trellis: A. Viterbi,
-- 1967).
use Rattle.std.specs.Prelude.{◌≡◌, ◌⊎◌, ℕ, ◌+◌, ◌-◌, ◌*◌, ◌%◌, ◌<◌, ◌≤◌, List, [], ◌∷◌, length, Option, Some, None, Bool, false, IsTrue, slice_index_or, ℤ, pos, ◌+ℤ◌, ◌≤ℤ◌, ◌<ℤ◌}
use Rattle.rwsp_terms.specs.declared.data.Symbol.{Symbol}
use Rattle.rwsp_terms.specs.declared.limits.TheConstants.{GREATEST_REWARD, GREATEST_WEIGHT, MOST_CELLS, MOST_SHIFTS}
use Rattle.rwsp_terms.specs.Instance.{cells, shift_count}
use Rattle.refutation_terms.specs.Word.{Domains}
use Rattle.refutation_terms.specs.Escape.{ComesFirst}
use Rattle.domain_store.specs.Store.{has_domain}
use Rattle.clean_words.specs.Moves.{move_at}
use Rattle.clean_words.specs.Automata.{RuleAutomaton, IsAutomaton, begin_at}
use Rattle.clean_words.specs.declared.words.CleanWords.{CleanWords}
use Rattle.clean_words.specs.Rows.{Row, gain_at, AreWithin}

pub record Trellis : Type 0 where
  pub automaton : RuleAutomaton
  pub domains : Domains
  pub position : ℕ
  pub days : ℕ
  pub gain : ℕ → Bool → Symbol → ℤ

abbrev pub trellis : CleanWords → (ℕ → Bool → Symbol → ℤ) → Trellis
trellis words gain = record {
  automaton = words.automaton.now;
  domains = has_domain words.domains.now;
  position = words.position;
  days = words.days;
  gain = gain;
}

-- what holds of the automaton and the domains of all words
pub record AreFacts (words : CleanWords) : Type 0 where
  pub automaton : IsAutomaton words.automaton.now
  pub positions : length words.domains.now.sets ≡ cells words.automaton.now.problem
  pub shifts : words.domains.now.shifts ≡ shift_count words.automaton.now.problem
  pub few : shift_count words.automaton.now.problem ≤ MOST_SHIFTS
  pub few_cells : cells words.automaton.now.problem ≤ MOST_CELLS
  pub symbols :
      (q x : ℕ) → IsTrue (has_domain words.domains.now q x) → x ≤ shift_count words.automaton.now.problem

-- the state where the words begin
abbrev pub start_of : Trellis → ℕ
start_of T = begin_at T.automaton T.position

-- the position of a day
abbrev pub place_of : Trellis → ℕ → ℕ
place_of T day = (T.position + day) % cells T.automaton.problem

-- whether the domain of a day has the symbol
abbrev pub IsInside : Trellis → ℕ → Symbol → Type 0
IsInside T day x = IsTrue (T.domains (place_of T day) x.number)

-- what a symbol gains on a day at a state
abbrev pub gain_from : Trellis → ℕ → ℕ → Symbol → ℤ
gain_from T day state x = T.gain day (slice_index_or T.automaton.offs state false) x

-- the word leads from the state on a day to the end, and gains this much
abbrev pub Leads : Trellis → ℕ → ℕ → List Symbol → ℤ → Type 0
Leads T day state [] weight = (day ≡ T.days) × (weight ≡ pos 0)
Leads T day state (x ∷ u) weight =
    IsInside T day x
    × ((to : ℕ) × (move_at T.automaton.moves state x.number ≡ Some to)
    × ((rest : ℤ) × (weight ≡ gain_from T day state x +ℤ rest) × Leads T (day + 1) to u rest))

-- the greatest gain of the words that lead from the state to the end; none where no word does
abbrev pub IsGreatest : Trellis → ℕ → ℕ → Option ℤ → Type 0
IsGreatest T day state None = (u : List Symbol) (w : ℤ) → Leads T day state u w → ⊥
IsGreatest T day state (Some weight) =
    ((u : List Symbol) × Leads T day state u weight)
    × ((u : List Symbol) (w : ℤ) → Leads T day state u w → w ≤ℤ weight)

-- the best of these words: the heaviest, and the least of its weight
pub record IsBest (T : Trellis) (day state : ℕ) (word : List Symbol) (weight : ℤ) : Type 0 where
  pub leads : Leads T day state word weight
  pub others :
      (u : List Symbol) (w : ℤ) → Leads T day state u w → (w <ℤ weight) ⊎ ((w ≡ weight) × ComesFirst word u)

-- the row of a day: the greatest gains of all states
pub record IsRow (T : Trellis) (day : ℕ) (row : Row) : Type 0 where
  pub long : length row ≡ length T.automaton.moves
  pub greatest : (state : ℕ) → state < length T.automaton.moves → IsGreatest T day state (gain_at row state)
  pub light : AreWithin ((GREATEST_WEIGHT + GREATEST_REWARD) * (T.days - day)) row

-- the rows of days in a row, the last day first
abbrev pub AreRows : Trellis → ℕ → List Row → Type 0
AreRows T last rows = (i : ℕ) → i < length rows → IsRow T (last - i) (slice_index_or rows i [])

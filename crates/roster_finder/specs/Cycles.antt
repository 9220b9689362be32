-- Words that go round.
use Rattle.std.specs.Prelude.{◌≡◌, ℕ, zero, suc, ◌+◌, List, [], ◌++◌, length, Some}
use Rattle.rwsp_terms.specs.declared.data.Symbol.{Symbol}
use Rattle.refutation_terms.specs.Word.{Clean}
use Rattle.clean_words.specs.Moves.{lead}
use Rattle.clean_words.specs.Automata.{RuleAutomaton, begin_at}

-- the word so often, one after another
abbrev pub repeated : ℕ → List Symbol → List Symbol
repeated zero w = []
repeated (suc k) w = w ++ repeated k w

-- from the position on the word is clean however often it is repeated, so that it may be taken round and round
abbrev pub IsCleanCycle : RuleAutomaton → ℕ → List Symbol → Type 0
IsCleanCycle a p w = (k : ℕ) → Clean a.problem a.rules p (repeated k w)

-- it leads from a state, to which some word leads that ends before the position, back to that state
pub record IsClosedWalk (a : RuleAutomaton) (p : ℕ) (w : List Symbol) : Type 0 where
  pub state : ℕ
  pub start : ℕ
  pub entry : List Symbol
  pub behind : p ≡ start + length entry
  pub entered : lead a.moves (Some (begin_at a start)) entry ≡ Some state
  pub closed : lead a.moves (Some state) w ≡ Some state

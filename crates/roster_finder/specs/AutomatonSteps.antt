-- The steps of an automaton.
use Rattle.std.specs.Prelude.{◌<◌, ◌≤◌, length}
use Rattle.rwsp_terms.specs.Instance.{shift_count}
use Rattle.clean_words.specs.declared.step.Step.{Step}
use Rattle.clean_words.specs.Automata.{RuleAutomaton}

-- the step leads from a state to a state by a symbol of the problem
abbrev pub IsMoveOf : RuleAutomaton → Step → Type 0
IsMoveOf a s = (s.from < length a.moves) × (s.to < length a.moves) × (s.symbol.number ≤ shift_count a.problem)

-- The steps of an automaton.
use Rattle.std.proofs.Common.{◌≡◌, ℕ, ◌<◌, length, Some, slice_index_or}
use Rattle.std.proofs.lemmas.List.{get_or_default}
use Rattle.clean_words.specs.declared.step.Step.{Step}
use Rattle.clean_words.specs.Moves.{move_at}
use Rattle.clean_words.specs.Automata.{RuleAutomaton, IsAutomaton}
use Rattle.clean_words.proofs.Leading.{moves_from}
use Rattle.roster_finder.specs.AutomatonSteps.{IsMoveOf}

-- each leads from a state to a state by a symbol of the problem
pub step_inside : (a : RuleAutomaton) → IsAutomaton a → (k : ℕ) (d : Step) → k < length a.steps → IsMoveOf a (slice_index_or a.steps k d)
step_inside a is k d within =
    let s : Step = slice_index_or a.steps k d in
    let moved : move_at a.moves s.from s.symbol.number ≡ Some s.to = (is.stepped s.from s.symbol s.to).0 (k, within, get_or_default a.steps k s d within) in
    let inside = is.inside s.from s.symbol.number s.to moved in
    (moves_from a.moves s.from s.symbol.number s.to moved, inside.1, inside.0)

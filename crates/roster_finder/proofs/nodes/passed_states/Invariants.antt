use Rattle.std.proofs.Common.{◌≡◌, length}
use Rattle.roster_finder.proofs.nodes.passed_states.Given as goal

abbrev pub invariant-loop : goal.invariant-loop
invariant-loop l = length l.passed.items ≡ length l.automaton.moves

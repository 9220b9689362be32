use Rattle.std.proofs.Common.{◌≡◌, length}
use Rattle.roster_finder.proofs.nodes.Nodes.of.Given as goal

abbrev pub invariant-loop-is_node : goal.invariant-loop-is_node
invariant-loop-is_node l = length l.nodes.numbers.items ≡ l.is_node-index

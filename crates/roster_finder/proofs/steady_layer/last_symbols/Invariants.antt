use Rattle.std.proofs.Common.{◌≡◌, length}
use Rattle.roster_finder.proofs.steady_layer.last_symbols.Given as goal

abbrev pub invariant-loop-number : goal.invariant-loop-number
invariant-loop-number l = (l.last.below ≡ l.symbols) × (length l.last.entries.items ≡ l.nodes.count)

use Rattle.std.proofs.Common.{◌<◌, length}
use Rattle.roster_finder.proofs.heavy_word.Weigher.heaviest_end.Given as goal

abbrev pub invariant-loop-node : goal.invariant-loop-node
invariant-loop-node l = l.best < length l.self.weights.items

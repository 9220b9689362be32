use Rattle.std.proofs.Common.{◌<◌}
use Rattle.search_tests.proofs.steady_layer_tests.end_of.Given as goal

abbrev pub invariant-loop-symbol : goal.invariant-loop-symbol
invariant-loop-symbol l = l.at < l.layer.nodes

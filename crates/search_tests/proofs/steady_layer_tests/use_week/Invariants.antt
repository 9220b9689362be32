use Rattle.std.proofs.Common.{◌≡◌}
use Rattle.search_tests.proofs.steady_layer_tests.use_week.Given as goal

abbrev pub invariant-loop-node : goal.invariant-loop-node
invariant-loop-node l = (l.uses.rows ≡ l.initial.uses.rows) × (l.uses.columns ≡ l.initial.uses.columns)

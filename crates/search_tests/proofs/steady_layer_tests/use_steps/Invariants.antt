use Rattle.std.proofs.Common.{◌≡◌, ◌<◌}
use Rattle.search_tests.proofs.steady_layer_tests.use_steps.Given as goal

abbrev pub invariant-loop-symbol : goal.invariant-loop-symbol
invariant-loop-symbol l = (l.at < l.layer.nodes) × (l.weekday < l.uses.rows) × (l.uses.rows ≡ l.initial.uses.rows) × (l.uses.columns ≡ l.initial.uses.columns)

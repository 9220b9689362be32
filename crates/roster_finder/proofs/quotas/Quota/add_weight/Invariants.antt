use Rattle.std.proofs.Common.{◌≡◌}
use Rattle.roster_finder.proofs.quotas.Quota.add_weight.Given as goal

abbrev pub invariant-loop-place : goal.invariant-loop-place
invariant-loop-place l = (l.weights.rows ≡ l.initial.weights.rows) × (l.weights.columns ≡ l.initial.weights.columns)

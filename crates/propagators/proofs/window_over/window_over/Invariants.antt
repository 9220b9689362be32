use Rattle.std.proofs.Common.{ℕ, ◌<◌, ◌≤◌}
use Rattle.propagators.specs.Windows.{NoWindowOver}
use Rattle.propagators.proofs.window_over.window_over.Given as goal

abbrev pub invariant-loop-number : goal.invariant-loop-number
invariant-loop-number l = record {
  some : 1 ≤ l.number;
  before : (k : ℕ) → k < l.number → NoWindowOver l.problem l.doms k l.q;
}

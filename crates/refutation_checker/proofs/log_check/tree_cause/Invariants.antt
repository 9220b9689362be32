use Rattle.std.proofs.Common.{◌≡◌}
use Rattle.refutation_checker.specs.LogVerdicts.{IsPassed}
use Rattle.refutation_checker.proofs.log_check.tree_cause.Given as goal

abbrev pub invariant-loop-i : goal.invariant-loop-i
invariant-loop-i l = record {
  judge : l.judge ≡ l.fn.judge;
  passed : IsPassed l.fn.judge.problem l.log l.i l.walk;
}

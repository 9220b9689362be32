use Rattle.std.proofs.Common.{◌<◌, ◌≤◌, ◌+◌, length}
use Rattle.std.specs.Prelude.{All}
use Rattle.std.specs.List.Sorted.{IsStrictlyIncreasing}
use Rattle.refutation_log.proofs.RulesFront.{ReadsOn}
use Rattle.refutation_log.proofs.line.rule_numbers.Given as goal

abbrev pub invariant-loop-n : goal.invariant-loop-n
invariant-loop-n l = record {
  ascends : IsStrictlyIncreasing l.list;
  below : All (λ k. k < l.last + 1) l.list;
  within : l.last ≤ l.high;
  reads : ReadsOn l.high l.fn.fields l.list l.last l.fields;
}

abbrev pub decreases-loop-n : goal.decreases-loop-n
decreases-loop-n l = length l.fields

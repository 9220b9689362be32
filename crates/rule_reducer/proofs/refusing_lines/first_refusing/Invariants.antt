use Rattle.std.proofs.Common.{◌≡◌, take}
use Rattle.domain_store.specs.States.{IsStateOf}
use Rattle.refutation_checker.specs.LogVerdicts.{judging_of}
use Rattle.rule_reducer.proofs.Walking.{HoldWithout}
use Rattle.rule_reducer.proofs.refusing_lines.first_refusing.Given as goal

abbrev pub invariant-loop-i : goal.invariant-loop-i
invariant-loop-i l = record {
  same : l.judge ≡ judging_of l.problem l.log;
  walked : IsStateOf l.problem l.log.opening (take l.i l.log.lines) l.walk;
  held : HoldWithout l.problem l.dropped.number l.log l.i;
}

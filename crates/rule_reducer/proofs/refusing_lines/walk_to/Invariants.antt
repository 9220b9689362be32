use Rattle.std.proofs.Common.{take}
use Rattle.domain_store.specs.States.{IsStateOf}
use Rattle.rule_reducer.proofs.refusing_lines.walk_to.Given as goal

abbrev pub invariant-loop-i : goal.invariant-loop-i
invariant-loop-i l = IsStateOf l.problem l.log.opening (take l.i l.log.lines) l.walk

use Rattle.std.proofs.Common.{◌≡◌, ◌+◌, take}
use Rattle.crew_size.specs.Texts.{sections_text}
use Rattle.crew_size.proofs.print.print_staff.Given as goal

abbrev pub invariant-loop-log : goal.invariant-loop-log
invariant-loop-log l = record {
  logs : l.log-items ≡ l.run.logs;
  size : l.weeks ≡ l.run.low + l.log-index;
  text : l.out.items ≡ sections_text l.problem l.run.low (take l.log-index l.run.logs);
}

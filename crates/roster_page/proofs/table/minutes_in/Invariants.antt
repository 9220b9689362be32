use Rattle.std.proofs.Common.{◌≡◌, ◌*◌, ◌≤◌, take}
use Rattle.std.specs.List.{sum_by}
use Rattle.roster_page.specs.Hours.{minutes_of}
use Rattle.roster_page.proofs.table.minutes_in.Given as goal

abbrev pub invariant-loop-i : goal.invariant-loop-i
invariant-loop-i l = record {
  total : l.sum ≡ sum_by (minutes_of l.problem) (take l.i l.row);
  few : l.sum ≤ 10000 * l.i;
}

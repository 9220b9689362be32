use Rattle.std.proofs.Common.{◌≡◌, ◌++◌}
use Rattle.std.specs.List.{flat_map, range_with_len}
use Rattle.roster_page.specs.PageText.{week_row}
use Rattle.roster_page.proofs.table.put_week_rows.Given as goal

abbrev pub invariant-loop-week : goal.invariant-loop-week
invariant-loop-week l = l.out.items ≡ l.fn.out.items ++ flat_map (week_row l.problem l.cells) (range_with_len 0 l.week)

use Rattle.std.proofs.Common.{◌≡◌, ◌≤◌, ◌++◌, drop}
use Rattle.crew_calendar.specs.declared.content_lines.TheConstants.{LONGEST_ROW}
use Rattle.crew_calendar.specs.ContentLines.{folded_from}
use Rattle.crew_calendar.proofs.content_lines.put_content_line.Given as goal

abbrev pub invariant-loop-b : goal.invariant-loop-b
invariant-loop-b l = record {
  row : l.column ≤ LONGEST_ROW;
  folded : l.fn.out.items ++ folded_from 0 l.line ≡ l.out.items ++ folded_from l.column (drop l.b-index l.line);
}

use Rattle.std.proofs.Common.{◌≡◌, ◌++◌, drop}
use Rattle.std.specs.List.{flat_map}
use Rattle.crew_calendar.specs.ContentLines.{escape}
use Rattle.crew_calendar.proofs.content_lines.put_escaped.Given as goal

abbrev pub invariant-loop-b : goal.invariant-loop-b
invariant-loop-b l = l.fn.out.items ++ flat_map escape l.text ≡ l.out.items ++ flat_map escape (drop l.b-index l.text)

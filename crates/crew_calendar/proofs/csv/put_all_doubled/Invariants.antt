use Rattle.std.proofs.Common.{◌≡◌, ◌++◌, drop}
use Rattle.std.specs.List.{flat_map}
use Rattle.crew_calendar.specs.Csv.{doubled}
use Rattle.crew_calendar.proofs.csv.put_all_doubled.Given as goal

abbrev pub invariant-loop-b : goal.invariant-loop-b
invariant-loop-b l = l.fn.out.items ++ flat_map doubled l.text ≡ l.out.items ++ flat_map doubled (drop l.b-index l.text)

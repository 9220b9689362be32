use Rattle.std.proofs.Common.{◌≡◌, ◌++◌, drop}
use Rattle.shown_names.specs.ShownNames.{shown_from}
use Rattle.shown_names.proofs.names.put_shown.Given as goal

abbrev pub invariant-loop-i : goal.invariant-loop-i
invariant-loop-i l = l.fn.out.items ++ shown_from 0 l.name ≡ l.out.items ++ shown_from l.more (drop l.i l.name)

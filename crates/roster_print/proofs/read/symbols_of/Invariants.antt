use Rattle.std.proofs.Common.{◌≡◌, ◌++◌, map, drop}
use Rattle.roster_print.specs.Said.{or_off}
use Rattle.roster_print.proofs.read.symbols_of.Given as goal

abbrev pub invariant-loop-cell : goal.invariant-loop-cell
invariant-loop-cell l = l.symbols.items ++ map or_off (drop l.cell-index l.said) ≡ map or_off l.said

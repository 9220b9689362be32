use Rattle.std.proofs.Common.{◌≡◌, ◌++◌, replicate}
use Rattle.made_problems.proofs.hidden.put_block.Given as goal

abbrev pub invariant-loop-day : goal.invariant-loop-day
invariant-loop-day l = l.cells.items ≡ l.initial.cells.items ++ replicate l._day l.symbol

use Rattle.std.proofs.Common.{◌≡◌, take}
use Rattle.made_problems.specs.Blocks.{roster_of}
use Rattle.made_problems.proofs.hidden.roster_of.Given as goal

abbrev pub invariant-loop-stint : goal.invariant-loop-stint
invariant-loop-stint l = l.cells.items ≡ roster_of (take l.stint-index l.stints)

use Rattle.std.proofs.Common.{◌≡◌, All, length}
use Rattle.roster_finder.specs.Steps.{IsUnder}
use Rattle.roster_finder.proofs.numbers.Numbers.counting.Given as goal

abbrev pub invariant-loop-number : goal.invariant-loop-number
invariant-loop-number l = (length l.entries.items ≡ l.number) × All (IsUnder l.below) l.entries.items

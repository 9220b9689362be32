use Rattle.std.proofs.Common.{◌≡◌, ◌*◌, All, length}
use Rattle.roster_finder.specs.Steps.{IsBelow}
use Rattle.roster_finder.proofs.steady_layer.numbered_out.Given as goal

abbrev pub invariant-loop-number : goal.invariant-loop-number
invariant-loop-number l = (length l.out.items ≡ l.symbols * l.nodes) × All (IsBelow (length l.steps)) l.out.items

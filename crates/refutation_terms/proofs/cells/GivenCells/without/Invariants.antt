use Rattle.std.proofs.Common.{◌≡◌, ◌==◌, not, take}
use Rattle.std.specs.Prelude.{filter}
use Rattle.refutation_terms.proofs.cells.GivenCells.without.Given as goal

abbrev pub invariant-loop-cell : goal.invariant-loop-cell
invariant-loop-cell l = l.left ≡ filter (λ c. not (c.p == l.fn.p)) (take l.cell-index l.self)

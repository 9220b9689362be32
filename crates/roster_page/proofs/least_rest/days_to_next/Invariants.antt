use Rattle.std.proofs.Common.{◌≡◌, ℕ, ◌+◌, ◌<◌}
use Rattle.rwsp_terms.specs.Window.{cell}
use Rattle.roster_page.proofs.least_rest.days_to_next.Given as goal

abbrev pub invariant-loop-days : goal.invariant-loop-days
invariant-loop-days l = (k : ℕ) → 0 < k → k < l.days → (cell l.cells (l.place + k)).number ≡ 0

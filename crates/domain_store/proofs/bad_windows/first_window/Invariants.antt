use Rattle.std.proofs.Common.{◌-◌, ◌≤◌}
use Rattle.domain_store.specs.Patterns.{NonePlaced}
use Rattle.domain_store.proofs.bad_windows.first_window.Given as goal

abbrev pub invariant-loop-start : goal.invariant-loop-start
invariant-loop-start g l = record {
  behind : l.from ≤ l.start;
  none : NonePlaced (g.V.View.allows l.view) l.pattern l.from l.start;
}

abbrev pub decreases-loop-start : goal.decreases-loop-start
decreases-loop-start g l = l.end - l.start

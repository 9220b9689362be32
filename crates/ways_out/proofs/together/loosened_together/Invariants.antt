use Rattle.std.specs.Prelude.{All}
use Rattle.ways_out.specs.Loosened.{IsChange}
use Rattle.ways_out.proofs.together.loosened_together.Given as goal

abbrev pub invariant-loop-place : goal.invariant-loop-place
invariant-loop-place g l = All (IsChange l.all) l.grouping.changes.now

use Rattle.std.proofs.Common.{◌≡◌, ◌<◌, ℕ, length, get_or}
use Rattle.ways_out.specs.declared.change.Change.{Change}
use Rattle.ways_out.specs.declared.change.Outcome.{Outcome}
use Rattle.ways_out.specs.Helping.{IsOutcome}
use Rattle.ways_out.proofs.side_by_side.in_order.Given as goal

abbrev pub invariant-loop-place : goal.invariant-loop-place
invariant-loop-place g l = record {
  long : length l.outcomes.items ≡ l.place;
  each : (i : ℕ) (d : Outcome) → i < length l.outcomes.items → (c : Change) → IsOutcome l.refuted.asked.problem.now l.refuted.asked.effort (get_or l.changes i c) (get_or l.outcomes.items i d);
}

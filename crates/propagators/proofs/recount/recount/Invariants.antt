use Rattle.std.proofs.Common.{◌≡◌, ℕ, ◌+◌, ◌<◌, ◌≤◌, false, slice_index, slice_index_or}
use Rattle.propagators.specs.Tallies.{one_if}
use Rattle.propagators.proofs.recount.recount.Given as goal

abbrev pub invariant-loop-x : goal.invariant-loop-x
invariant-loop-x l = record {
  done : (y : ℕ) → y < l.x → slice_index l.counters (l.row + y) + one_if (slice_index_or l.were y false) ≡ slice_index l.fn.counters (l.row + y) + one_if (slice_index_or l.are y false);
  below : (k : ℕ) → k < l.row → slice_index l.counters k ≡ slice_index l.fn.counters k;
  rest : (k : ℕ) → l.row + l.x ≤ k → slice_index l.counters k ≡ slice_index l.fn.counters k;
}

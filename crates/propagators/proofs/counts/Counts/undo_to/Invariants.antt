use Rattle.std.proofs.Common.{◌≡◌, ℕ, ◌<◌, [], length, slice_index_or}
use Rattle.propagators.specs.Counted.{HasShapeOf}
use Rattle.propagators.proofs.counts.Counts.undo_to.Given as goal

abbrev pub invariant-loop-p : goal.invariant-loop-p
invariant-loop-p l = record {
  shape : HasShapeOf l.self l.doms;
  long : length l.self.sets ≡ length l.doms.sets;
  done : (q : ℕ) → q < l.p → slice_index_or l.self.sets q [] ≡ slice_index_or l.doms.sets q [];
}

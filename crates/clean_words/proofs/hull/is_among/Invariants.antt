use Rattle.std.proofs.Common.{ℕ, ◌<◌, slice_index_or, ◌≢◌}
use Rattle.clean_words.proofs.hull.is_among.Given as goal

abbrev pub invariant-loop-v : goal.invariant-loop-v
invariant-loop-v l = (k : ℕ) → k < l.v-index → slice_index_or l.vectors k l.vector ≢ l.vector

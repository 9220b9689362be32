use Rattle.std.proofs.Common.{◌≡◌, ℕ, ◌<◌, length, get_or}
use Rattle.propagators.proofs.marks.Marks.clear.Given as goal

abbrev pub invariant-loop-place : goal.invariant-loop-place
invariant-loop-place l = record {
  long : length l.self-inside.words.items ≡ length l.fn.self;
  none : (k : ℕ) → k < l.place → get_or l.self-inside.words.items k 0 ≡ 0;
}

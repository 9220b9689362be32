use Rattle.std.proofs.Common.{◌≡◌, ℕ, ◌<◌, ◌≤◌, length, true, false}
use Rattle.std.specs.Prelude.{slice_index_or}
use Rattle.propagators.proofs.two_turns.raise.Given as goal

abbrev pub invariant-loop-q : goal.invariant-loop-q
invariant-loop-q l = record {
  long : length l.flags.items ≡ length l.fn.flags.items;
  kept : (k : ℕ) → slice_index_or l.flags.items k false ≡ false → slice_index_or l.fn.flags.items k false ≡ false;
  raised : (k : ℕ) → l.start ≤ k → k < l.q → slice_index_or l.flags.items k false ≡ true;
}

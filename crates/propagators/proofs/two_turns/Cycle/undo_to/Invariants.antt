use Rattle.std.proofs.Common.{◌≡◌, ℕ, ◌<◌, [], length}
use Rattle.std.specs.Prelude.{slice_index_or}
use Rattle.propagators.proofs.two_turns.Cycle.undo_to.Given as goal

abbrev pub invariant-loop-p : goal.invariant-loop-p
invariant-loop-p l = record {
  problem : l.self.problem ≡ l.fn.self.problem;
  rules : l.self.rules ≡ l.fn.self.rules;
  long : length l.self.sets ≡ length l.doms.sets;
  done : (q : ℕ) → q < l.p → slice_index_or l.self.sets q [] ≡ slice_index_or l.doms.sets q [];
}

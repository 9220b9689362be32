use Rattle.std.proofs.Common.{◌≡◌, ℕ, ◌<◌, ◌≤◌, true, false}
use Rattle.std.specs.Prelude.{slice_index_or}
use Rattle.propagators.proofs.window.WindowProp.look_within.Given as goal

abbrev pub invariant-loop-p : goal.invariant-loop-p
invariant-loop-p l = record {
  problem : l.self.problem ≡ l.fn.self.problem;
  sets : l.self.sets ≡ l.doms.sets;
  kept : (q : ℕ) → slice_index_or l.self.pending q false ≡ true → (l.fn.first ≤ q) × (q < l.fn.end);
  seen : (q : ℕ) → l.fn.first ≤ q → q < l.p → slice_index_or l.self.pending q false ≡ false;
}

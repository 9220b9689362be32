use Rattle.std.proofs.Common.{ℕ, ◌*◌, ◌≤◌, arith}
use Rattle.std.proofs.Math.Nat.{mul-le-mul_right}
use Rattle.propagators.proofs.near_closing.found_leaf.Goals.{in-Some+in_ok-line-in-Some, in-None}
use Rattle.propagators.proofs.near_closing.found_leaf.Goals as goal

few_days : (turns most n longest : ℕ) → turns ≤ most → most * n ≤ longest → turns * n ≤ longest
few_days turns most n longest fewer few = let shorter = mul-le-mul_right n fewer in omega (arith, shorter)

pub small_leaf-requires-clause-few : goal.small_leaf-requires-clause-few
small_leaf-requires-clause-few c =
    let found : (1 ≤ c.in-Some.turns) × (c.in-Some.turns ≤ c.args.effort.most_turns) = rw c.in-Some.is at c.in_ok-found.ensures in
    few_days _ _ _ _ found.1 c.requires.few

pub returns : goal.returns
returns c = elim c.match-found.branch [
  | in-Some+in_ok-line-in-Some w ↦ rw w.line-is w.in_ok-line-in-Some.ensures
  | in-None w ↦ rw w.line-is tt
]

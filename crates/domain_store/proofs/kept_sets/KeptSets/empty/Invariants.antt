use Rattle.std.proofs.Common.{◌≡◌, List, ℕ, [], replicate}
use Rattle.domain_store.proofs.kept_sets.KeptSets.empty.Given as goal

abbrev pub invariant-loop : goal.invariant-loop
invariant-loop l = l.sets.items ≡ replicate {A = List ℕ} l.counter []

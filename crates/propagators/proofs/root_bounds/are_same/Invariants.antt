use Rattle.std.proofs.Common.{◌≡◌, ℕ, ◌<◌}
use Rattle.domain_store.specs.Store.{has_domain}
use Rattle.propagators.proofs.root_bounds.are_same.Given as goal

abbrev pub invariant-loop-p : goal.invariant-loop-p
invariant-loop-p l = (q : ℕ) → q < l.p → (x : ℕ) → has_domain l.doms q x ≡ has_domain l.start q x

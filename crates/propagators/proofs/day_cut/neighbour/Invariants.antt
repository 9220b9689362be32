use Rattle.std.proofs.Common.{◌≡◌, ℕ, ◌<◌, true}
use Rattle.domain_store.specs.Store.{has_domain}
use Rattle.propagators.proofs.day_cut.neighbour.Given as goal

abbrev pub invariant-loop-number : goal.invariant-loop-number
invariant-loop-number l = (z : ℕ) → z < l.number → has_domain l.doms l.p z ≡ true → z ≡ l.x.number

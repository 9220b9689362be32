use Rattle.std.proofs.Common.{◌≡◌, ℕ, ◌<◌, ◌≤◌, length}
use Rattle.domain_store.specs.Store.{domain_at}
use Rattle.roster_search.proofs.order.first_open_in.Given as goal

abbrev pub invariant-loop-p : goal.invariant-loop-p
invariant-loop-p l = (q : ℕ) → l.start ≤ q → q < l.p → length (domain_at l.domains q) ≡ 1

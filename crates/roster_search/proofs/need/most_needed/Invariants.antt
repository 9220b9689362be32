use Rattle.std.proofs.Common.{◌≡◌, ℕ, ◌<◌, false, IsTrue, MatchOption}
use Rattle.domain_store.specs.Store.{has_domain}
use Rattle.roster_search.proofs.need.most_needed.Given as goal

abbrev pub invariant-loop-number : goal.invariant-loop-number
invariant-loop-number l = MatchOption l.best ((y : ℕ) → y < l.number → has_domain l.domains l.p y ≡ false) (λ b. IsTrue (has_domain l.domains l.p b.x.number))

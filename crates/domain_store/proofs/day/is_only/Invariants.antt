use Rattle.std.proofs.Common.{◌≡◌, ◌||◌, ◌==◌, not, true}
use Rattle.std.specs.List.{range_with_len, list_all}
use Rattle.domain_store.specs.Store.{has_domain}
use Rattle.domain_store.proofs.day.is_only.Given as goal

abbrev pub invariant-loop-number : goal.invariant-loop-number
invariant-loop-number l = list_all (λ z. (z == l.x.number) || not (has_domain l.doms l.p z)) (range_with_len 0 l.number) ≡ true

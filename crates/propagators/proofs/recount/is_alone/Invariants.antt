use Rattle.std.proofs.Common.{◌≡◌, ◌||◌, ◌==◌, not, true}
use Rattle.std.specs.List.{range_with_len, list_all}
use Rattle.domain_store.specs.Sets.{has_symbol}
use Rattle.propagators.proofs.recount.is_alone.Given as goal

abbrev pub invariant-loop-z : goal.invariant-loop-z
invariant-loop-z l = list_all (λ z. (z == l.x) || not (has_symbol l.set z)) (range_with_len 0 l.z) ≡ true

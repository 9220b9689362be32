use Rattle.std.proofs.Common.{◌≡◌, ℕ, ◌<◌, true}
use Rattle.domain_store.specs.Sets.{has_symbol}
use Rattle.propagators.proofs.window.is_part.Given as goal

abbrev pub invariant-loop-x : goal.invariant-loop-x
invariant-loop-x l = (y : ℕ) → y < l.x → has_symbol l.part y ≡ true → has_symbol l.whole y ≡ true

-- The domains are a copy of what was given.
use Rattle.std.proofs.Common.{subst, sym}
use Rattle.domain_store.specs.Store.{Store}
use Rattle.propagators.specs.TopBounds.{IsTopWatch}
use Rattle.propagators.proofs.root_bounds.RootBounds.new.Goals as goal

pub invariant_of-result : goal.invariant_of-result
invariant_of-result g c =
    let A = c.args.automaton.now in
    let Watches : Store → Type 0 = λ S. IsTopWatch (record { problem = A.problem; start = S; rules = A.rules; weights = c.in_ok-weights.weights }) in
    subst Watches (sym c.in_ok-start.ensures) (record { belongs = c.requires.belongs; short = c.requires.short; answer = c.in_ok-weights.ensures })

use Rattle.std.proofs.Common.{◌≡◌, [], ◌∷◌, take, map}
use Rattle.domain_store.proofs.domains.only_symbols.Given as goal

abbrev pub invariant-loop-set : goal.invariant-loop-set
invariant-loop-set l = map (λ x. x.number ∷ []) l.symbols.items ≡ take l.set-index l.sets

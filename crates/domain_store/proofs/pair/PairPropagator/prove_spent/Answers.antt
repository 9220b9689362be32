-- A symbol that is spent for one of the two is beside another, as that one says.
use Rattle.std.proofs.Common.{inl, inr}
use Rattle.domain_store.proofs.pair.PairPropagator.prove_spent.Goals as goal

pub returns : goal.returns
returns g c P S p x serves belongs spent =
    elim spent [
      | inl first ↦ c.prove_spent.ensures P S p x serves.0 belongs first
      | inr second ↦ c.prove_spent-2.ensures P S p x serves.1 belongs second
    ]

-- What holds throughout holds now.
use Rattle.domain_store.proofs.StoreLemmas.{store_now, store_has_domains}
use Rattle.domain_store.proofs.domains.Domains.prove_facts.Goals as goal

pub returns-clause-now : goal.returns-clause-now
returns-clause-now c = rw (← c.self.view_is) (store_now _ c.self.invariant.store)

pub returns-clause-tests : goal.returns-clause-tests
returns-clause-tests c = rw (← c.self.view_is) (store_has_domains _ (store_now _ c.self.invariant.store))

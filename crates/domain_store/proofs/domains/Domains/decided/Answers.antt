-- Each position has one symbol exactly where no symbol is to spare.
use Rattle.domain_store.proofs.StoreLemmas.{decided_where_none}
use Rattle.domain_store.proofs.domains.Domains.decided.Goals as goal

pub returns : goal.returns
returns c = rw (← c.self.view_is) (decided_where_none _ _ _ c.self.invariant)

-- As many symbols as there are ones.
use Rattle.domain_store.proofs.BitLemmas.{bits_counted, few_bits}
use Rattle.domain_store.proofs.symbol_set.SymbolSet.size.Goals as goal

pub returns-clause-value : goal.returns-clause-value
returns-clause-value c = rw (← c.self.view_is) (bits_counted c.self.inside.bits c.self.invariant)

pub returns-clause-few : goal.returns-clause-few
returns-clause-few c = few_bits c.self.inside.bits c.self.invariant

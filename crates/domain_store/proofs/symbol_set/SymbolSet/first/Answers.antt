-- The lowest bit that is set.
use Rattle.std.proofs.Common.{sym}
use Rattle.domain_store.proofs.BitLemmas.{lowest_bit}
use Rattle.domain_store.proofs.symbol_set.SymbolSet.first.Goals as goal

pub returns-else-self-eq0 : goal.returns-else-self-eq0
returns-else-self-eq0 c =
    rw (← c.self.view_is) (sym (lowest_bit c.self.inside.bits c.if-self-eq0.false c.self.invariant))

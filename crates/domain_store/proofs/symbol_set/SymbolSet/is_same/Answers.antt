-- The symbols are the same where the bits are.
use Rattle.std.proofs.Common.{ap}
use Rattle.std.proofs.lemmas.Bool.{eqb-true, eq-eqb}
use Rattle.domain_store.specs.Sets.{symbols_of}
use Rattle.domain_store.proofs.BitLemmas.{same_symbols}
use Rattle.domain_store.proofs.symbol_set.SymbolSet.is_same.Goals as goal

pub returns : goal.returns
returns c = rw (← c.self.view_is, ← c.other.view_is) (
  λ same. ap symbols_of (eqb-true c.self.inside.bits c.other.inside.bits same),
  λ same. eq-eqb c.self.inside.bits c.other.inside.bits (same_symbols c.self.inside.bits c.other.inside.bits c.self.invariant c.other.invariant same),
)

-- A bit is cleared.
use Rattle.std.proofs.Common.{ap, ◌∙◌}
use Rattle.domain_store.specs.Sets.{without_symbol}
use Rattle.domain_store.proofs.BitLemmas.{bit_cleared, cleared_fits}
use Rattle.domain_store.proofs.symbol_set.SymbolSet.without.Goals as goal

pub invariant_of-result : goal.invariant_of-result
invariant_of-result c = cleared_fits _ _ c.self.invariant

pub returns : goal.returns
returns c = bit_cleared c.self.inside.bits c.args.x c.requires ∙ ap (without_symbol c.args.x) c.self.view_is

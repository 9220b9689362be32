use Rattle.std.proofs.Common.{◌<◌}
use Rattle.rwsp_terms.specs.declared.data.Symbol.{Symbol}
use Rattle.refutation_terms.specs.BlocksLeaf.{BlocksHold}
use Rattle.domain_store.proofs.blocks.first_blocks.Given as goal

abbrev pub invariant-loop-number : goal.invariant-loop-number
invariant-loop-number l = (y : Symbol) → 0 < y.number → y.number < l.number → BlocksHold l.problem y → ⊥

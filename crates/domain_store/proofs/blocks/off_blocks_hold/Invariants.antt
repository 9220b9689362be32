use Rattle.std.proofs.Common.{ℕ, ◌<◌}
use Rattle.refutation_terms.specs.BlocksLeaf.{OffBlocksFit}
use Rattle.domain_store.proofs.blocks.off_blocks_hold.Given as goal

abbrev pub invariant-loop-k : goal.invariant-loop-k
invariant-loop-k l = (i : ℕ) → i < l.k → OffBlocksFit l.problem i → ⊥

-- No number of blocks so far fits.
use Rattle.std.proofs.Common.{refl, sym, ◌∙◌, below_more, arith}
use Rattle.std.proofs.lemmas.Bool.{false≢true}
use Rattle.domain_store.proofs.blocks.off_blocks_hold.Goals as goal

pub returns-then-off_blocks_fit : goal.returns-then-off_blocks_fit
returns-then-off_blocks_fit c = (
  λ yes. absurd (false≢true yes),
  λ hold. absurd (hold c.loop-k.k (omega arith) (c.off_blocks_fit.ensures.0 c.if-off_blocks_fit.true)),
)

pub loop-k-preserved : goal.loop-k-preserved
loop-k-preserved c =
    below_more _ _ c.loop-k.invariant (λ fit. false≢true (sym c.if-off_blocks_fit.false ∙ c.off_blocks_fit.ensures.1 fit))

pub returns : goal.returns
returns c = (λ yes k within fit. c.loop-k.invariant k (omega (arith, within)) fit, λ hold. refl)

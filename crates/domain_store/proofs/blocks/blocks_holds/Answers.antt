-- The day off is the symbol numbered 0.
use Rattle.std.proofs.Common.{◌≡◌, ◌↔◌, ℕ, IsTrue, eqb-true, sym, ◌∙◌, subst}
use Rattle.rwsp_terms.specs.Instance.{symbol_numbered}
use Rattle.refutation_terms.specs.BlocksLeaf.{BlocksHold}
use Rattle.domain_store.proofs.blocks.blocks_holds.Goals as goal

pub returns-then-eq : goal.returns-then-eq
returns-then-eq c =
    let off : c.args.x.number ≡ 0 = eqb-true c.args.x.number 0 (sym c.eq.ensures ∙ c.if-eq.true) in
    let Decided : ℕ → Type 0 = λ n. IsTrue c.off_blocks_hold.result ↔ BlocksHold c.args.problem.now (symbol_numbered n) in
    subst Decided (sym off) c.off_blocks_hold.ensures

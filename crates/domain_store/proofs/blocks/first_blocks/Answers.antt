-- No shift has one, and the day off has one or not.
use Rattle.std.proofs.Common.{sym, ◌∙◌, arith}
use Rattle.std.proofs.lemmas.Bool.{false≢true}
use Rattle.domain_store.proofs.BlockCounts.{none_holds}
use Rattle.domain_store.proofs.blocks.first_blocks.Goals as goal

pub returns-then-blocks_holds-2 : goal.returns-then-blocks_holds-2
returns-then-blocks_holds-2 c = record {
  symbol = omega arith;
  holds = c.blocks_holds-2.ensures.0 c.if-blocks_holds-2.true;
  first = λ y known before hold. c.loop-number.invariant y before.0 (omega (arith, known)) hold;
}

pub returns-else-blocks_holds-2 : goal.returns-else-blocks_holds-2
returns-else-blocks_holds-2 c = none_holds c.args.problem.now (λ y some few hold. c.loop-number.invariant y some (omega (arith, few)) hold) (λ hold. false≢true (sym c.if-blocks_holds-2.false ∙ c.blocks_holds-2.ensures.1 hold))

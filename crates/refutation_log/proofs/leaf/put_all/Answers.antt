use Rattle.std.proofs.Common.{refl, arith}
use Rattle.refutation_log.proofs.Adding.{StandsAt, adds_more, number_step, all_numbers, some_numbers, err_from}
use Rattle.refutation_log.proofs.leaf.put_all.Goals as goal

pub loop-number-preserved : goal.loop-number-preserved
loop-number-preserved c =
    let items = c.numbers-number-items.result.now in
    adds_more _ _ _ (StandsAt items) _ c.loop-number.invariant (number_step _ _ items _ _ (omega arith) refl c.in_ok-put.ensures.holds)

pub returns-clause-ok : goal.returns-clause-ok
returns-clause-ok c = all_numbers _ _ c.numbers-number-items.result.now _ _ c.numbers-number-items.ensures.value (omega arith) c.loop-number.invariant

pub returns-in_err-put-clause-err : goal.returns-in_err-put-clause-err
returns-in_err-put-clause-err c =
    err_from c.from_residual.result _ (some_numbers _ _ _ c.numbers-number-items.result.now _ _ c.numbers-number-items.ensures.value c.loop-number.invariant c.in_err-put.ensures.kept)

use Rattle.refutation_terms.specs.BlocksLeaf.{IsBlockRule}
use Rattle.refutation_log.specs.Cited.{IsSomeDay}
use Rattle.refutation_log.proofs.Adding.{on_ok, on_err, err_from}
use Rattle.refutation_log.proofs.CitedRules.{adds_either, some_of_first, some_of_both}
use Rattle.refutation_log.proofs.leaf.put_blocks_cited.Goals as goal

pub returns-in_err-put_block_rules-clause-err : goal.returns-in_err-put_block_rules-clause-err
returns-in_err-put_block_rules-clause-err c =
    let P = c.args.problem.now in
    err_from c.from_residual.result _ (some_of_first P _ _ (IsBlockRule c.args.x.number) (IsSomeDay P) c.in_err-put_block_rules.ensures.err)

pub returns-clause-ok : goal.returns-clause-ok
returns-clause-ok c =
    let P = c.args.problem.now in
    on_ok c.put_each_day.result _ _ (adds_either P _ c.put_block_rules.new.rules _ (IsBlockRule c.args.x.number) (IsSomeDay P) c.in_ok-put_block_rules.ensures.ok) c.put_each_day.ensures.ok

pub returns-clause-err : goal.returns-clause-err
returns-clause-err c =
    let P = c.args.problem.now in
    on_err c.put_each_day.result _ _ (some_of_both P _ c.put_block_rules.new.rules _ (IsBlockRule c.args.x.number) (IsSomeDay P) c.in_ok-put_block_rules.ensures.ok) c.put_each_day.ensures.err

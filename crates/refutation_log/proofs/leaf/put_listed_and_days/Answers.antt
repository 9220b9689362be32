use Rattle.refutation_log.proofs.Adding.{on_ok, on_err, err_from, adds_both, some_first, some_then}
use Rattle.refutation_log.proofs.leaf.put_listed_and_days.Goals as goal

pub returns-in_err-put_all-clause-err : goal.returns-in_err-put_all-clause-err
returns-in_err-put_all-clause-err c = err_from c.from_residual.result _ (some_first _ _ _ _ c.in_err-put_all.ensures.err)

pub returns-clause-ok : goal.returns-clause-ok
returns-clause-ok c = on_ok c.put_days.result _ _ (λ h. adds_both _ c.put_all.new.rules _ _ _ c.in_ok-put_all.ensures.ok h) c.put_days.ensures.ok

pub returns-clause-err : goal.returns-clause-err
returns-clause-err c = on_err c.put_days.result _ _ (λ h. some_then _ c.put_all.new.rules _ _ _ c.in_ok-put_all.ensures.ok h) c.put_days.ensures.err

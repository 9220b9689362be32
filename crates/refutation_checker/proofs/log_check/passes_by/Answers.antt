use Rattle.refutation_checker.proofs.Passing.{told_by}
use Rattle.refutation_checker.proofs.log_check.passes_by.Goals as goal

pub returns-clause-passes : goal.returns-clause-passes
returns-clause-passes c = told_by c.args.problem.now c.args.log.now c.in_ok-found.found c.is_none.result c.is_none.ensures c.in_ok-found.ensures.cause

use Rattle.rwsp_model.proofs.Limits.{valid_keeps}
use Rattle.rwsp_model.proofs.problem.Problem.demand_greatest.Goals as goal

pub greatest_of-requires-clause-limits : goal.greatest_of-requires-clause-limits
greatest_of-requires-clause-limits c = valid_keeps _ c.self.invariant

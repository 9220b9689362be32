use Rattle.rwsp_model.proofs.Limits.{valid_keeps}
use Rattle.rwsp_model.proofs.problem.Problem.demand_least.Goals as goal

pub least_of-requires-clause-limits : goal.least_of-requires-clause-limits
least_of-requires-clause-limits c = valid_keeps _ c.self.invariant

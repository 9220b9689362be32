use Rattle.std.proofs.Common.{subst}
use Rattle.rwsp_terms.specs.Instance.{Instance}
use Rattle.rwsp_model.specs.Validity.{KeepsLimits}
use Rattle.rwsp_model.proofs.Limits.{valid_keeps}
use Rattle.rwsp_model.proofs.problem.Problem.prove_limits.Goals as goal

pub returns : goal.returns
returns c = subst (λ (P : Instance). KeepsLimits P) c.self.view_is (valid_keeps _ c.self.invariant)

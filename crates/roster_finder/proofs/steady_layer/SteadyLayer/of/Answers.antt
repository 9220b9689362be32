use Rattle.std.proofs.Common.{rules, ℕ, List, All, length, subst}
use Rattle.roster_finder.specs.declared.step.Step.{Step}
use Rattle.roster_finder.specs.Steps.{IsStepWithin, IsBelow}
use Rattle.roster_finder.proofs.steady_layer.SteadyLayer.of.Goals as goal

pub invariant_of-result : goal.invariant_of-result
invariant_of-result c =
    let nodes = c.in_ok-nodes.nodes in
    record {
      few_symbols = search rules;
      steps_within = subst (λ (below : ℕ). All (IsStepWithin nodes.count below) c.in_ok-steps.steps.items) c.in_ok-last.ensures.below c.in_ok-steps.ensures.within;
      few_steps = c.in_ok-steps.ensures.few;
      last_whole = c.in_ok-last.ensures.whole;
      last_below = c.in_ok-last.ensures.below;
      out_whole = c.in_ok-out.ensures.whole;
      out_within = subst (λ (steps : List Step). All (IsBelow (length steps)) c.in_ok-out.out.items) c.deref.ensures.value c.in_ok-out.ensures.within;
    }

use Rattle.std.proofs.Common.{◌≤◌, All, length}
use Rattle.roster_finder.specs.Steps.{IsStepWithin}
use Rattle.roster_finder.proofs.steady_layer.steps_between.Given as goal

abbrev pub invariant-loop-number : goal.invariant-loop-number
invariant-loop-number l = record {
  few : length l.steps.items ≤ l.number;
  within : All (IsStepWithin l.nodes.count l.last.below) l.steps.items;
}

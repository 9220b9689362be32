use Rattle.std.proofs.Common.{◌≡◌, ◌∙◌}
use Rattle.rwsp_model.specs.Parts.{instance_of}
use Rattle.rwsp_model.proofs.OtherWeeks.{other_weeks_valid}
use Rattle.rwsp_model.proofs.problem.Problem.with_weeks.Goals as goal

pub invariant_of-result : goal.invariant_of-result
invariant_of-result c =
    let same : instance_of c.in_ok-parts.parts ≡ c.args.self.now = c.in_ok-parts.ensures ∙ c.self.view_is in
    other_weeks_valid c.args.self.now (instance_of c.in_ok-parts.parts) c.args.weeks same c.prove_limits.ensures c.requires.some c.requires.few c.requires.few_cells

use Rattle.std.proofs.Common.{◌≡◌, ◌∙◌}
use Rattle.rwsp_model.specs.Parts.{instance_of}
use Rattle.rwsp_model.proofs.OtherSequences.{other_sequences_valid}
use Rattle.rwsp_model.proofs.problem.Problem.with_sequences.Goals as goal

pub invariant_of-result : goal.invariant_of-result
invariant_of-result c =
    let same : instance_of c.in_ok-parts.parts ≡ c.args.self.now = c.in_ok-parts.ensures ∙ c.self.view_is in
    other_sequences_valid c.args.self.now (instance_of c.in_ok-parts.parts) c.args.sequences.items same c.prove_limits.ensures c.requires.known c.requires.listed

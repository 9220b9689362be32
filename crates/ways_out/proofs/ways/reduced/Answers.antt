use Rattle.std.proofs.Common.{◌∙◌}
use Rattle.rule_reducer.proofs.KeptParts.{same_kind}
use Rattle.ways_out.proofs.Helping.{log_refutes}
use Rattle.ways_out.proofs.ways.reduced.Goals as goal

pub returns : goal.returns
returns c =
    let left = c.in_ok-left.left in
    let e = c.in_ok-left.ensures in
    log_refutes c.args.problem.now left e.passes (same_kind c.args.log left e.kept ∙ c.requires.kind)

use Rattle.refutation_terms.specs.declared.lines.LogKind.TheVariants.{WithoutGoal}
use Rattle.refutation_terms.specs.LogText.{log_text}
use Rattle.commands.proofs.Refusals.{printable, refused_text}
use Rattle.commands.proofs.reduce.reduced.Goals as goal

pub returns-in-Err-Refused-clause-says : goal.returns-in-Err-Refused-clause-says
returns-in-Err-Refused-clause-says c =
    let refused = c.in-Err-Refused in
    refused_text c.args.problem.now c.args.log refused.field-0 refused.why _ c.requires.kind refused.field-0-is refused.ensures.reduced

pub returns-in-Err-Refused-clause-own : goal.returns-in-Err-Refused-clause-own
returns-in-Err-Refused-clause-own c =
    let refused = c.in-Err-Refused in
    printable c.args.problem.now WithoutGoal (log_text c.args.problem.now c.args.log) refused.why
    (refused_text c.args.problem.now c.args.log refused.field-0 refused.why _ c.requires.kind refused.field-0-is refused.ensures.reduced)

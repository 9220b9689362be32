use Rattle.refutation_terms.specs.declared.lines.LogKind.TheVariants.{WithoutGoal}
use Rattle.commands.proofs.Unread.{passes_and_is_unread}
use Rattle.commands.proofs.Refusals.{printable}
use Rattle.commands.proofs.reduce.first_refusal.Goals as goal

pub unreachable-requires : goal.unreachable-requires
unreachable-requires g c =
    let accepted = c.in-Ok.ensures in
    let unread = c.requires.unread in
    passes_and_is_unread c.args.problem.now WithoutGoal c.args.bytes.now accepted.0 unread.0 c.prove_limits.ensures accepted.1 unread.1

pub returns-in-Err-Refused-clause-own : goal.returns-in-Err-Refused-clause-own
returns-in-Err-Refused-clause-own g c =
    let refused = c.in-Err-Refused in
    printable c.args.problem.now WithoutGoal c.args.bytes.now refused.why (rw refused.field-0-is at refused.ensures)

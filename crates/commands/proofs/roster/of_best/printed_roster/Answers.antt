use Rattle.std.proofs.Common.{◌∙◌, arith}
use Rattle.commands.proofs.ReadBest.{not_printed, too_long, other_text}
use Rattle.commands.proofs.roster.of_best.printed_roster.Goals as goal

pub returns-then-bytes-clause-printed : goal.returns-then-bytes-clause-printed
returns-then-bytes-clause-printed c = too_long c.args.problem.now c.args.bytes.now c.prove_limits.ensures (omega (arith, c.if-bytes.true))

pub returns-in-Err-Refused-clause-printed : goal.returns-in-Err-Refused-clause-printed
returns-in-Err-Refused-clause-printed c =
    not_printed c.args.problem.now c.args.bytes.now c.prove_limits.ensures (rw c.in-Err-Refused.field-0-is at c.in-Err-Refused.ensures.unspelled)

pub returns-else-are_same-clause-printed : goal.returns-else-are_same-clause-printed
returns-else-are_same-clause-printed c =
    other_text c.args.problem.now c.args.bytes.now c.in-Ok.roster.cells c.prove_limits.ensures c.in-Ok.ensures.spelled
    (λ e. c.if-are_same.ensures (c.as_slice.ensures.value ∙ c.in_ok-text.ensures ∙ e))

use Rattle.std.proofs.Common.{◌+◌, arith}
use Rattle.rwsp_terms.specs.Instance.{shift_count}
use Rattle.plain_words.specs.Told.{is_outside}
use Rattle.plain_words.proofs.Joined.{first_found}
use Rattle.plain_words.proofs.told.first_shift_outside.Goals as goal

pub returns-then-is_outside-clause-value : goal.returns-then-is_outside-clause-value
returns-then-is_outside-clause-value c =
    first_found (is_outside c.args.problem.now c.args.cells.now c.args.day) 1 (shift_count c.args.problem.now) c.loop-place.place (c.loop-place.place + 1) c.is_outside.result (omega arith)
    (omega (arith, c.loop-place-test.true, c.shifts-place-end.ensures.value)) c.loop-place.invariant c.is_outside.ensures c.if-is_outside.true

use Rattle.std.proofs.Common.{sym, arith}
use Rattle.std.proofs.lemmas.List.{append-nil}
use Rattle.rwsp_file.specs.Text.{no_shift}
use Rattle.rwsp_file.specs.Spelling.{shift_fields}
use Rattle.rwsp_file.proofs.TextSteps.{lines_more, lines_all}
use Rattle.rwsp_file.proofs.print.put_shifts.Goals as goal

pub loop-place-init : goal.loop-place-init
loop-place-init c = sym (append-nil c.args.out.now.items)

pub loop-place-preserved : goal.loop-place-preserved
loop-place-preserved c = lines_more shift_fields c.args.problem.now.shifts c.loop-place.place no_shift c.args.out.now.items _ _ (omega (arith, c.shifts-place-end.ensures.value, c.loop-place-test.true)) c.loop-place.invariant c.in_ok-put_shift.ensures

pub returns : goal.returns
returns c = lines_all shift_fields c.args.problem.now.shifts c.loop-place.place c.args.out.now.items _ (omega (arith, c.shifts-place-end.ensures.value, c.loop-place-test.false)) c.loop-place.invariant

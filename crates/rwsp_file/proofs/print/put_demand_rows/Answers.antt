use Rattle.std.proofs.Common.{[], sym, arith, map}
use Rattle.std.proofs.lemmas.List.{append-nil}
use Rattle.rwsp_file.specs.Spelling.FileField.{DemandField}
use Rattle.rwsp_file.proofs.TextSteps.{lines_more, lines_all}
use Rattle.rwsp_file.proofs.print.put_demand_rows.Goals as goal

pub loop-place-init : goal.loop-place-init
loop-place-init c = sym (append-nil c.args.out.now.items)

pub loop-place-preserved : goal.loop-place-preserved
loop-place-preserved c = lines_more (map DemandField) c.args.problem.now.demand c.loop-place.place [] c.args.out.now.items _ _ (omega (arith, c.prove_limits.ensures.rows, c.shifts-place-end.ensures.value, c.loop-place-test.true)) c.loop-place.invariant c.in_ok-put_demand_row.ensures

pub returns : goal.returns
returns c = lines_all (map DemandField) c.args.problem.now.demand c.loop-place.place c.args.out.now.items _ (omega (arith, c.prove_limits.ensures.rows, c.shifts-place-end.ensures.value, c.loop-place-test.false)) c.loop-place.invariant

use Rattle.std.proofs.Common.{length, ap, arith}
use Rattle.plain_words.proofs.Lines.{few_sizes, staff_told}
use Rattle.plain_words.proofs.log_told.put_staff_told.Goals as goal

pub overflow_cast-weeks : goal.overflow_cast-weeks
overflow_cast-weeks c = omega (arith, few_sizes c.args.problem.now c.args.run.now c.requires, ap length c.logs-logs.ensures)

pub overflow_add-weeks : goal.overflow_add-weeks
overflow_add-weeks c = omega (arith, few_sizes c.args.problem.now c.args.run.now c.requires, ap length c.logs-logs.ensures, c.low.ensures)

pub put_logs_told-requires-clause-few : goal.put_logs_told-requires-clause-few
put_logs_told-requires-clause-few c = omega (arith, few_sizes c.args.problem.now c.args.run.now c.requires, ap length c.logs-logs.ensures, c.low-3.ensures)

pub put_logs_told-requires-clause-sizes : goal.put_logs_told-requires-clause-sizes
put_logs_told-requires-clause-sizes c = rw (c.logs-logs.ensures, c.low-3.ensures) c.requires.sizes

pub put_logs_told-requires-clause-fits : goal.put_logs_told-requires-clause-fits
put_logs_told-requires-clause-fits c = rw (c.logs-logs.ensures, c.low-3.ensures) c.requires.logs

pub returns : goal.returns
returns c =
    staff_told c.args.problem.now c.args.run.now c.low-2.result c.low.result c.low-3.result c.logs-logs.result.now c.end.result.now c.args.out.now.items c.put_end_of_staff.new.out.items c.put_logs_told.new.out.items
    c.low-2.ensures c.low.ensures c.low-3.ensures c.logs-logs.ensures c.end.ensures c.in_ok-put_end_of_staff.ensures c.in_ok-put_logs_told.ensures

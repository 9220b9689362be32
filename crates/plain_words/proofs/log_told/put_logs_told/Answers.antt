use Rattle.std.proofs.Common.{length, ◌-◌}
use Rattle.plain_words.proofs.Lines.{last_read, logs_told}
use Rattle.plain_words.proofs.log_told.put_logs_told.Goals as goal

pub put_sized_told-requires-clause-size : goal.put_sized_told-requires-clause-size
put_sized_told-requires-clause-size c =
    c.requires.sizes (length c.args.logs.now - 1) c.index-logs-before.result (last_read c.args.logs.now c.is_empty.result c.index-logs-before.result c.is_empty.ensures c.if-is_empty.false c.index-logs-before.is)

pub put_sized_told-requires-clause-fits : goal.put_sized_told-requires-clause-fits
put_sized_told-requires-clause-fits c =
    c.requires.fits (length c.args.logs.now - 1) c.index-logs-before.result (last_read c.args.logs.now c.is_empty.result c.index-logs-before.result c.is_empty.ensures c.if-is_empty.false c.index-logs-before.is)

pub returns : goal.returns
returns c =
    logs_told c.args.problem.now c.args.low c.args.logs.now c.index-logs-before.result c.args.out.now.items c.put_sized_told.new.out.items c.put_sizes_told.new.out.items
    (last_read c.args.logs.now c.is_empty.result c.index-logs-before.result c.is_empty.ensures c.if-is_empty.false c.index-logs-before.is) c.in_ok-put_sized_told.ensures c.in_ok-put_sizes_told.ensures

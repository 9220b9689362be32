use Rattle.std.proofs.Common.{arith}
use Rattle.plain_words.specs.Statements.{told_line}
use Rattle.plain_words.specs.LogTold.{counted_at}
use Rattle.plain_words.proofs.Joined.{list_more}
use Rattle.plain_words.proofs.log_told.put_counts_told.Goals as goal

pub loop-number-preserved : goal.loop-number-preserved
loop-number-preserved c = list_more (told_line c.args.problem.now) (counted_at c.args.problem.now c.args.lines.now) 0 c.loop-number.number c.loop-number.number _ _ _ (omega arith) c.loop-number.invariant c.in_ok-put_counted_at.ensures

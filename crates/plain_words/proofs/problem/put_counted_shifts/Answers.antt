use Rattle.std.proofs.Common.{◌+◌, arith}
use Rattle.plain_words.specs.Statements.{said}
use Rattle.plain_words.specs.Sentences.{counted_at}
use Rattle.plain_words.proofs.Joined.{list_more}
use Rattle.plain_words.proofs.problem.put_counted_shifts.Goals as goal

pub loop-place-preserved : goal.loop-place-preserved
loop-place-preserved c = list_more (said c.args.by.now) (counted_at c.args.by.now.problem.now) 1 c.loop-place.place (c.loop-place.place + 1) _ _ _ (omega arith) c.loop-place.invariant c.in_ok-put_counted_at.ensures

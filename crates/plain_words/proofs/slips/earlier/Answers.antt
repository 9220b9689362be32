use Rattle.std.proofs.Common.{arith}
use Rattle.plain_words.specs.Sentences.{stands_at}
use Rattle.plain_words.proofs.Joined.{first_found}
use Rattle.plain_words.proofs.slips.earlier.Goals as goal

pub returns-then-stands_at-clause-value : goal.returns-then-stands_at-clause-value
returns-then-stands_at-clause-value c =
    first_found (stands_at c.args.problem.now c.args.place) 0 c.args.place c.loop-i.i c.loop-i.i c.stands_at.result (omega arith)
    c.loop-i-test.true c.loop-i.invariant c.stands_at.ensures c.if-stands_at.true

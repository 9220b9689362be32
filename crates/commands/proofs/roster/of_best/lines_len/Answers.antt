use Rattle.std.proofs.Common.{arith}
use Rattle.commands.proofs.ReadBest.{line_more, lines_done, lines_end}
use Rattle.commands.proofs.roster.of_best.lines_len.Goals as goal

pub returns-then-left-eq0-clause-value : goal.returns-then-left-eq0-clause-value
returns-then-left-eq0-clause-value c =
    lines_done _ c.loop-i.left c.args.bytes.now c.loop-i.i c.if-left-eq0.true c.loop-i.invariant

pub loop-i-preserved : goal.loop-i-preserved
loop-i-preserved c =
    line_more _ c.loop-i.left _ c.args.bytes.now c.loop-i.i c.loop-i-test.true c.loop-i.invariant (omega (arith, c.if-left-eq0.false)) c.left_behind-left.ensures

pub returns-clause-value : goal.returns-clause-value
returns-clause-value c = lines_end _ c.loop-i.left c.args.bytes.now c.loop-i.i c.loop-i-test.false (omega arith) c.loop-i.invariant

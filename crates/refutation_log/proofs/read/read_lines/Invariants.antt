use Rattle.std.proofs.Common.{length}
use Rattle.refutation_log.proofs.LogLines.{LinesSoFar}
use Rattle.refutation_log.proofs.read.read_lines.Given as goal

abbrev pub invariant-loop-count : goal.invariant-loop-count
invariant-loop-count l = LinesSoFar l.problem l.header.goal l.header.counts l.fn.reader l.reader l.lines.items l.count

abbrev pub decreases-loop-count : goal.decreases-loop-count
decreases-loop-count l = length l.reader

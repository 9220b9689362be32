use Rattle.std.proofs.Common.{length}
use Rattle.refutation_checker.proofs.Unread.{PassedSoFar}
use Rattle.refutation_checker.proofs.chunk_starts.pass_lines.Given as goal

abbrev pub invariant-loop-line : goal.invariant-loop-line
invariant-loop-line l = PassedSoFar l.problem l.terms.goal l.terms.counts l.fn.splits.items l.splits.items l.bytes l.reader l.count

abbrev pub decreases-loop-line : goal.decreases-loop-line
decreases-loop-line l = length l.reader

use Rattle.std.proofs.Common.{length}
use Rattle.refutation_checker.proofs.Cutting.{CutSoFar, bytes_left}
use Rattle.refutation_checker.proofs.chunk_starts.chunks_of.Given as goal

abbrev pub invariant-loop-rest : goal.invariant-loop-rest
invariant-loop-rest l = CutSoFar l.problem l.terms.goal l.terms.counts l.size l.fn.all l.splits.items l.chunks.items l.rest

abbrev pub decreases-loop-rest : goal.decreases-loop-rest
decreases-loop-rest l = length (bytes_left l.rest)

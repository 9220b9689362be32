use Rattle.refutation_checker.proofs.Starts.{IntoSoFar}
use Rattle.refutation_checker.proofs.chunk_starts.walk_into.Given as goal

abbrev pub invariant-loop-split : goal.invariant-loop-split
invariant-loop-split l = IntoSoFar l.problem l.terms.goal l.terms.counts l.start l.splits l.split-index l.walk

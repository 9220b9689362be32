use Rattle.std.proofs.Common.{◌≡◌, length}
use Rattle.refutation_checker.proofs.ChunkJudging.{IsSomewhere, JudgedSoFar}
use Rattle.refutation_checker.proofs.chunk.judge_lines.Given as goal

abbrev pub invariant-loop-bytes : goal.invariant-loop-bytes
invariant-loop-bytes l = record {
  judge : l.judge ≡ l.fn.judge;
  state : IsSomewhere l.fn.judge.problem l.walk;
  judged : JudgedSoFar l.fn.judge (record { walk = l.fn.walk; bytes = l.fn.bytes; first = l.fn.first }) l.reader l.walk l.number;
}

abbrev pub decreases-loop-bytes : goal.decreases-loop-bytes
decreases-loop-bytes l = length l.reader

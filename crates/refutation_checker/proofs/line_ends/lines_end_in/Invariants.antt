use Rattle.std.proofs.Common.{◌≡◌, ◌<◌, take}
use Rattle.refutation_checker.specs.Chunks.{feeds}
use Rattle.refutation_checker.proofs.line_ends.lines_end_in.Given as goal

abbrev pub invariant-loop-i : goal.invariant-loop-i
invariant-loop-i l = (l.count ≡ feeds (take l.i l.block)) × (l.count < l.size)

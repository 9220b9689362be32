use Rattle.std.proofs.Common.{ℕ, ◌<◌}
use Rattle.clean_words.specs.Tables.{IsKept}
use Rattle.clean_words.proofs.image.are_kept.Given as goal

abbrev pub invariant-loop-state : goal.invariant-loop-state
invariant-loop-state l = (k : ℕ) → k < l.state → IsKept l.table l.small l.classes k

use Rattle.std.proofs.Common.{◌≡◌, ◌≤◌, take}
use Rattle.refutation_checker.specs.Chunks.{feeds}
use Rattle.refutation_checker.proofs.line_ends.feeds_in_block.Given as goal

abbrev pub invariant-loop-byte : goal.invariant-loop-byte
invariant-loop-byte l = record { value : l.count ≡ feeds (take l.byte-index l.block); few : l.count ≤ l.byte-index }

use Rattle.std.proofs.Common.{◌≡◌, ◌+◌, drop}
use Rattle.commands.specs.ReadBest.{lines_len}
use Rattle.commands.proofs.roster.of_best.lines_len.Given as goal

abbrev pub invariant-loop-i : goal.invariant-loop-i
invariant-loop-i l = lines_len l.weeks l.bytes ≡ l.i + lines_len l.left (drop l.i l.bytes)

-- The piece keeps its length, and a failed read consumes nothing.
use Rattle.std.proofs.Common.{◌≡◌, length}
use Rattle.std.specs.Io.KnownBytes.{Keeps}
use Rattle.rwsp_io.proofs.interrupted.read_again.Given as goal

abbrev pub invariant-loop : goal.invariant-loop
invariant-loop g l = (length l.piece ≡ length l.initial.piece) × Keeps (g.F.Read.remaining l.initial.reader) (g.F.Read.remaining l.reader)

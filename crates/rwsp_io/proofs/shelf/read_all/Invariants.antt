use Rattle.std.proofs.Common.{◌≡◌, ℕ, ◌+◌, ◌≤◌, List, take, vec_len, true, ◌-◌}
use Rattle.std.specs.Io.KnownBytes.{Consumes}
use Rattle.rwsp_io.specs.Told.{Missing, NeverFall, told_bytes}
use Rattle.rwsp_io.proofs.shelf.read_all.Given as goal

abbrev pub invariant-loop-filled : goal.invariant-loop-filled
invariant-loop-filled g l = record {
  filled : l.filled ≤ vec_len l.bytes;
  few : vec_len l.bytes ≤ l.limit + 1;
  chosen : g.S.Shelf.chosen l.shelf ≡ true;
  taken : Consumes (told_bytes (g.S.Shelf.held l.fn.shelf l.name)) (g.S.Shelf.left l.shelf) (take l.filled l.bytes.items);
  not_missing : g.S.Shelf.held l.fn.shelf l.name ≡ Missing → ⊥;
  held : (other : List ℕ) → g.S.Shelf.held l.shelf other ≡ g.S.Shelf.held l.fn.shelf other;
  faults : NeverFall (g.S.Shelf.faults l.fn.shelf) (g.S.Shelf.faults l.shelf);
}

abbrev pub decreases-loop-filled : goal.decreases-loop-filled
decreases-loop-filled g l = l.limit + 1 - l.filled

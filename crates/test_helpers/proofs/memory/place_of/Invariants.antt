use Rattle.std.proofs.Common.{◌≡◌, drop}
use Rattle.test_helpers.specs.Files.{file_of}
use Rattle.test_helpers.proofs.memory.place_of.Given as goal

abbrev pub invariant-loop-i : goal.invariant-loop-i
invariant-loop-i l = file_of l.files l.name ≡ file_of (drop l.i l.files) l.name

use Rattle.std.proofs.Common.{◌≡◌, ◌++◌, drop}
use Rattle.commands.specs.Told.{behind_from, behind_rwsp}
use Rattle.commands.proofs.telling.behind_rwsp.Given as goal

abbrev pub invariant-loop-byte : goal.invariant-loop-byte
invariant-loop-byte l = l.out.items ++ behind_from l.begins (drop l.byte-index l.text) ≡ behind_rwsp l.text

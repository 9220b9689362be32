use Rattle.std.proofs.Common.{◌≡◌, ◌++◌, drop}
use Rattle.plain_words.specs.Filled.{filled}
use Rattle.plain_words.proofs.filled.put_filled.Given as goal

abbrev pub invariant-loop-byte : goal.invariant-loop-byte
invariant-loop-byte l =
    l.out.items ++ filled l.problem (drop l.byte-index l.text) (drop l.used l.parts) ≡ l.fn.out.items ++ filled l.problem l.text l.parts

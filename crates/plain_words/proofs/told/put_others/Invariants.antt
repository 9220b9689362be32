use Rattle.std.proofs.Common.{◌≡◌, ◌++◌, take}
use Rattle.std.specs.List.{flat_map}
use Rattle.plain_words.specs.Statements.{next_symbol}
use Rattle.plain_words.proofs.told.put_others.Given as goal

abbrev pub invariant-loop-symbol : goal.invariant-loop-symbol
invariant-loop-symbol l = l.out.items ≡ l.fn.out.items ++ flat_map (next_symbol l.problem) (take l.symbol-index l.symbols)

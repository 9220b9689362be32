use Rattle.std.proofs.Common.{◌≡◌, ◌++◌, take, map}
use Rattle.plain_words.specs.Statements.{lines}
use Rattle.plain_words.specs.Sentences.{numeric_name}
use Rattle.plain_words.proofs.problem.put_numeric_names.Given as goal

abbrev pub invariant-loop-long : goal.invariant-loop-long
invariant-loop-long l = l.out.items ≡ l.fn.out.items ++ lines l.by (map numeric_name (take l.long-index l.names))

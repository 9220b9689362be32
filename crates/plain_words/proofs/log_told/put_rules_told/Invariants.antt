use Rattle.std.proofs.Common.{◌≡◌, ◌++◌, take, map}
use Rattle.plain_words.specs.Statements.{told_lines}
use Rattle.plain_words.specs.LogTold.{rule_statement}
use Rattle.plain_words.proofs.log_told.put_rules_told.Given as goal

abbrev pub invariant-loop-rule : goal.invariant-loop-rule
invariant-loop-rule l = l.out.items ≡ l.fn.out.items ++ told_lines l.problem (map (rule_statement l.problem l.lone) (take l.rule-index l.rules))

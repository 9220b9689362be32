use Rattle.std.proofs.Common.{◌≡◌, ◌++◌, take}
use Rattle.std.specs.List.{flat_map}
use Rattle.roster_page.specs.PageText.{sequence_rule}
use Rattle.roster_page.proofs.rules.put_sequence_rules.Given as goal

abbrev pub invariant-loop-i : goal.invariant-loop-i
invariant-loop-i l = l.out.items ≡ l.fn.out.items ++ flat_map (sequence_rule l.problem) (take l.i l.sequences)

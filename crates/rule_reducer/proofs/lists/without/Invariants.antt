use Rattle.std.proofs.Common.{◌≡◌, take}
use Rattle.refutation_terms.specs.Strip.{without_rule}
use Rattle.rule_reducer.proofs.lists.without.Given as goal

abbrev pub invariant-loop-listed : goal.invariant-loop-listed
invariant-loop-listed l = l.kept ≡ without_rule l.number (take l.listed-index l.listed-items)

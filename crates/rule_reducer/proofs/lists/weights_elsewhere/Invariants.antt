use Rattle.std.proofs.Common.{◌≡◌, take, Some}
use Rattle.rwsp_terms.specs.declared.data.Rule.TheVariants.{Day}
use Rattle.refutation_terms.specs.Strip.{without_day}
use Rattle.rule_reducer.proofs.lists.weights_elsewhere.Given as goal

abbrev pub invariant-loop-entry : goal.invariant-loop-entry
invariant-loop-entry l = l.kept ≡ without_day (Some (Day l.day)) (take l.entry-index l.entry-items)

use Rattle.std.proofs.Common.{◌≡◌, ◌++◌, take}
use Rattle.std.specs.List.{flat_map}
use Rattle.refutation_log.proofs.PrintedTexts.{weight_piece}
use Rattle.refutation_log.proofs.fields.put_weights.Given as goal

abbrev pub invariant-loop-entry : goal.invariant-loop-entry
invariant-loop-entry l = l.out.items ≡ l.fn.out.items ++ flat_map (weight_piece l.problem) (take l.entry-index l.entries)

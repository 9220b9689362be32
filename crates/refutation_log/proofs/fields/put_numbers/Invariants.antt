use Rattle.std.proofs.Common.{◌≡◌, ◌++◌, take}
use Rattle.std.specs.List.{flat_map}
use Rattle.refutation_log.proofs.PrintedTexts.{number_piece}
use Rattle.refutation_log.proofs.fields.put_numbers.Given as goal

abbrev pub invariant-loop-number : goal.invariant-loop-number
invariant-loop-number l = l.out.items ≡ l.fn.out.items ++ flat_map number_piece (take l.number-index l.all)

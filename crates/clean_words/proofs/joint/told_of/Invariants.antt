use Rattle.std.proofs.Common.{◌≡◌, map, take}
use Rattle.std.specs.Prelude.{slice_index}
use Rattle.clean_words.proofs.joint.told_of.Given as goal

abbrev pub invariant-loop-pair : goal.invariant-loop-pair
invariant-loop-pair l = l.told.items ≡ map (λ b. slice_index l.first.told.items b.first) (take l.pair-index l.pairs)

use Rattle.std.proofs.Common.{◌≡◌, take}
use Rattle.domain_store.proofs.kept_sets.KeptSets.of.Given as goal

abbrev pub invariant-loop-p : goal.invariant-loop-p
invariant-loop-p l = l.sets.items ≡ take l.p l.doms.sets

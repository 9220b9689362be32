use Rattle.std.proofs.Common.{◌≡◌, false}
use Rattle.std.specs.Vec.Iter.{into_iter_items}
use Rattle.refutation_checker.specs.ChunkVerdicts.{joined_from}
use Rattle.refutation_checker.proofs.workers.joined.Given as goal

abbrev pub invariant-loop-answer : goal.invariant-loop-answer
invariant-loop-answer l = joined_from l.whole (into_iter_items l.answer-iterator) ≡ joined_from false l.fn.answers.items

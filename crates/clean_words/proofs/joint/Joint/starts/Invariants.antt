use Rattle.std.proofs.Common.{◌≡◌}
use Rattle.clean_words.proofs.Growing.{AreStartsTo}
use Rattle.clean_words.proofs.joint.Joint.starts.Given as goal

abbrev pub invariant-loop-day : goal.invariant-loop-day
invariant-loop-day l = record {
  moves : l.self.moves.items ≡ l.fn.self.moves.items;
  starts : AreStartsTo l.first l.second l.self.pairs.items l.starts.items l.day;
}

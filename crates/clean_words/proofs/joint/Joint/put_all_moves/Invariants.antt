use Rattle.std.proofs.Common.{◌-◌, ◌^◌, length}
use Rattle.clean_words.specs.Joint.{Extends, AreStates}
use Rattle.clean_words.proofs.joint.Joint.put_all_moves.Given as goal

abbrev pub invariant-loop-self : goal.invariant-loop-self
invariant-loop-self l = record {
  states : AreStates l.first l.second l.symbols l.self.pairs.items l.self.moves.items;
  grows : Extends l.fn.self.pairs.items l.self.pairs.items;
}

abbrev pub decreases-loop-self : goal.decreases-loop-self
decreases-loop-self l = 2 ^ 64 - length l.self.moves.items

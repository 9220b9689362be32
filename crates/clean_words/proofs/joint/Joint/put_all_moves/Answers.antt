use Rattle.std.proofs.Common.{refl}
use Rattle.clean_words.proofs.Growing.{extends_none, extends_on}
use Rattle.clean_words.proofs.joint.Joint.put_all_moves.Goals as goal

pub loop-self-init : goal.loop-self-init
loop-self-init c = record {
  states = c.requires.states;
  grows = extends_none c.args.self.now.pairs.items c.args.self.now.pairs.items refl;
}

pub loop-self-preserved : goal.loop-self-preserved
loop-self-preserved c = record {
  states = c.in_ok-put_moves.ensures.states;
  grows = extends_on c.args.self.now.pairs.items c.loop-self.self.pairs.items c.put_moves.new.self.pairs.items c.loop-self.invariant.grows c.in_ok-put_moves.ensures.grows;
}

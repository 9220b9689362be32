use Rattle.std.proofs.Common.{arith}
use Rattle.made_problems.specs.Rested.{shift_at, too_close}
use Rattle.made_problems.proofs.Pieces.{piece_more}
use Rattle.made_problems.proofs.rested.put_sequences_of.Goals as goal

pub loop-second-preserved : goal.loop-second-preserved
loop-second-preserved c =
    piece_more (λ j. too_close c.args.problem.now c.args.days c.args.minutes (shift_at c.args.first) (shift_at j)) c.loop-second.second c.args.out.now.items c.loop-second.out.items c.put_sequence.new.out.items c.loop-second.invariant
    (grind (arith, c.in_ok-put_sequence.ensures))

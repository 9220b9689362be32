use Rattle.made_problems.specs.Rested.{of_first, too_close}
use Rattle.made_problems.proofs.Pieces.{piece_more}
use Rattle.made_problems.proofs.rested.with_close.Goals as goal

pub loop-first-preserved : goal.loop-first-preserved
loop-first-preserved c =
    piece_more (of_first c.args.problem.now (too_close c.args.problem.now c.args.days c.args.minutes)) c.loop-first.first c.args.known.now c.loop-first.sequences.items c.put_sequences_of.new.out.items c.loop-first.invariant c.in_ok-put_sequences_of.ensures

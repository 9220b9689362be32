use Rattle.clean_words.proofs.GrowingWeights.{bounds_grown}
use Rattle.clean_words.proofs.plain.plain_bounds.Goals as goal

pub loop-i-preserved : goal.loop-i-preserved
loop-i-preserved c = bounds_grown c.args.problem.now _ _ _ c.loop-i.invariant c.in_ok-push_both-2.ensures

use Rattle.clean_words.proofs.GrowingWeights.{days_grown}
use Rattle.clean_words.proofs.plain.weights_on.Goals as goal

pub loop-i-preserved : goal.loop-i-preserved
loop-i-preserved c = days_grown _ _ _ _ _ c.loop-i.invariant c.in_ok-push_day.ensures

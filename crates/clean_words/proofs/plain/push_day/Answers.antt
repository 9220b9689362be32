use Rattle.clean_words.proofs.GrowingWeights.{day_started, day_grown}
use Rattle.clean_words.proofs.plain.push_day.Goals as goal

pub loop-i-init : goal.loop-i-init
loop-i-init c = day_started _ _ _ _ c.requires.later

pub loop-i-preserved : goal.loop-i-preserved
loop-i-preserved c = day_grown _ _ _ _ _ _ _ c.loop-i.invariant c.in_ok-push_weight.ensures

pub push_weight-requires-clause-last : goal.push_weight-requires-clause-last
push_weight-requires-clause-last c = c.loop-i.invariant.before

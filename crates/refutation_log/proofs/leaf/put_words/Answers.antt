use Rattle.refutation_log.proofs.Adding.{on_ok}
use Rattle.refutation_log.proofs.PrintedTexts.{light_text}
use Rattle.refutation_log.proofs.leaf.put_words.Goals as goal

pub returns-in_ok-put_light_head-in-Light : goal.returns-in_ok-put_light_head-in-Light
returns-in_ok-put_light_head-in-Light c =
    let P = c.args.problem.now in
    rw c.in-Light.is (on_ok c.put_weighed.result _ _ (light_text P c.args.goal c.args.p c.in-Light.turns c.in-Light.reward c.args.rules.now c.in-Light.weights _ _ _ c.in_ok-put_light_head-in-Light.ensures) (rw c.entries.ensures.value at c.put_weighed.ensures))

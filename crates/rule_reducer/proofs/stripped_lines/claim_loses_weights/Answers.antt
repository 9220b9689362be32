use Rattle.rule_reducer.proofs.Stripped.{same_dead, same_light}
use Rattle.rule_reducer.proofs.stripped_lines.claim_loses_weights.Goals as goal

pub returns-in-Dead : goal.returns-in-Dead
returns-in-Dead c = λ none P n is. same_dead P n _ c.args.claim.now c.in-Dead.is

pub returns-in-Light : goal.returns-in-Light
returns-in-Light c = λ none P n is. same_light P n _ _ _ c.args.rule c.args.claim.now c.in-Light.is is (c.loses_weights.ensures none)

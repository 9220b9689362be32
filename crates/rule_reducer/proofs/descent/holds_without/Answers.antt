use Rattle.rule_reducer.proofs.descent.holds_without.Goals as goal

pub returns-then-refused : goal.returns-then-refused
returns-then-refused c = c.in_ok-refused.ensures c.if-refused.true

pub returns-in-Some : goal.returns-in-Some
returns-in-Some c = rw c.in-Some.is at c.in_ok-place.ensures

pub returns : goal.returns
returns c = rw c.in_default.is at c.in_ok-place.ensures

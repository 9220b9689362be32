use Rattle.rwsp_terms.proofs.rule_list.RuleList.put.Goals as goal

pub returns-in-Err-clause-holds : goal.returns-in-Err-clause-holds
returns-in-Err-clause-holds c = rw c.self.view_is at c.insert_number.ensures.holds

pub returns-in-Err-clause-ascends : goal.returns-in-Err-clause-ascends
returns-in-Err-clause-ascends c = c.insert_number.ensures.ascends

pub returns-in-Err-clause-kept : goal.returns-in-Err-clause-kept
returns-in-Err-clause-kept c = rw c.self.view_is at c.insert_number.ensures.kept

pub invariant_of-self : goal.invariant_of-self
invariant_of-self c = c.insert_number.ensures.ascends

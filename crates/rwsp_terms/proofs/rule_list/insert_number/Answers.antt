use Rattle.rwsp_terms.proofs.Ascending.{Contains-insert}
use Rattle.rwsp_terms.proofs.rule_list.insert_number.Goals as goal

pub returns-clause-holds : goal.returns-clause-holds
returns-clause-holds c = λ k. rw c.in_ok-insert.ensures.items (Contains-insert _ _ _ k)

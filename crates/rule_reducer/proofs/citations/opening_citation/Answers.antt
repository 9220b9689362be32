use Rattle.rule_reducer.proofs.Citing.{opening_cited}
use Rattle.rule_reducer.proofs.citations.opening_citation.Goals as goal

pub returns : goal.returns
returns c = opening_cited c.args.problem.now c.args.opening.now _ _ c.new-rules.ensures c.in_ok-put_opening_cited.ensures.names

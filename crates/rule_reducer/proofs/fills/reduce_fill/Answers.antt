use Rattle.rule_reducer.proofs.Rounds.{loses_on}
use Rattle.rule_reducer.proofs.fills.reduce_fill.Goals as goal

pub returns-clause-kept : goal.returns-clause-kept
returns-clause-kept c = loses_on c.args.log c.in_ok-thinned.thinned c.in_ok-reduced.reduced c.in_ok-thinned.ensures.kept c.in_ok-reduced.ensures.kept

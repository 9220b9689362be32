use Rattle.rule_reducer.proofs.Citing.{both_kinds}
use Rattle.rule_reducer.proofs.citations.citations_of.Goals as goal

pub returns : goal.returns
returns c =
    both_kinds c.args.problem.now c.args.log.now _ _ _ _ (rw c.opening.ensures at c.in_ok-for_good.ensures) (rw c.lines.ensures at c.in_ok-put_all.ensures.plain) (rw c.lines.ensures at c.in_ok-put_all.ensures.listed)

pub put_all-requires : goal.put_all-requires
put_all-requires c = (c.args.log.now.goal, c.args.log.now.counts, rw c.lines.ensures c.requires.lines)

use Rattle.std.proofs.Common.{true}
use Rattle.refutation_log.proofs.Adding.{on_ok}
use Rattle.rule_reducer.proofs.Citing.{put_of_kind, other_kind, false_not_true}
use Rattle.rule_reducer.proofs.citations.put_plain.Goals as goal

pub returns-then-is_plain : goal.returns-then-is_plain
returns-then-is_plain c =
    on_ok c.put_cited.result _ _ (put_of_kind c.args.problem.now true c.is_plain.result c.args.line.now c.args.rules.now c.put_cited.new.rules c.is_plain.ensures c.if-is_plain.true) c.put_cited.ensures.names

pub returns : goal.returns
returns c = other_kind c.args.problem.now true c.is_plain.result c.args.line.now c.args.rules.now c.is_plain.ensures (false_not_true c.is_plain.result c.if-is_plain.false)

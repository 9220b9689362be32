use Rattle.std.proofs.Common.{◌∙◌, ap, length, sym}
use Rattle.rule_reducer.specs.Leaving.{cell_count}
use Rattle.rule_reducer.proofs.Rounds.{loses_on}
use Rattle.rule_reducer.proofs.fills.reduce_by_rounds.Goals as goal

pub returns-then-len-rules-clause-kept : goal.returns-then-len-rules-clause-kept
returns-then-len-rules-clause-kept c = loses_on c.args.log c.loop-left.left c.in_ok-left.left c.loop-left.invariant.kept c.in_ok-left.ensures.kept

pub returns-then-len-rules-clause-rules : goal.returns-then-len-rules-clause-rules
returns-then-len-rules-clause-rules c =
    let cells = sym (c.cell_count.ensures ∙ ap cell_count c.opening-in-loop-left.ensures) ∙ c.if-cell_count-cells.true ∙ c.cell_count-cells.ensures ∙ ap cell_count c.opening.ensures in
    let rules = sym (c.len.ensures ∙ ap length c.named-then-cell_count-cells.ensures) ∙ c.if-len-rules.true ∙ c.len-rules.ensures ∙ ap length c.named.ensures in
    (c.in_ok-left.ensures.round.needed cells rules).1

pub loop-left-preserved : goal.loop-left-preserved
loop-left-preserved c = record {
  passes = c.in_ok-left.ensures.round.passes;
  kept = loses_on c.args.log c.loop-left.left c.in_ok-left.left c.loop-left.invariant.kept c.in_ok-left.ensures.kept;
}

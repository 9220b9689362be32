use Rattle.std.proofs.Common.{◌++◌, ap, ◌∙◌}
use Rattle.std.specs.List.{flat_map}
use Rattle.roster_page.specs.PageText.{sequence_rule, sequence_rules}
use Rattle.roster_page.proofs.Taken.{taken_more, taken_all}
use Rattle.roster_page.proofs.rules.put_sequence_rules.Goals as goal

pub put_sequence_rule-requires : goal.put_sequence_rule-requires
put_sequence_rule-requires c = c.sequences-sequences.ensures.known c.loop-i.i _ c.loop-i-test.true

pub loop-i-preserved : goal.loop-i-preserved
loop-i-preserved c = taken_more (sequence_rule c.args.problem.now) c.sequences-sequences.result.now c.loop-i.i _ c.args.out.now.items _ _ c.loop-i-test.true c.loop-i.invariant c.in_ok-put_sequence_rule.ensures

pub returns : goal.returns
unfolding sequence_rules
returns c =
    taken_all (sequence_rule c.args.problem.now) c.sequences-sequences.result.now c.loop-i.i c.args.out.now.items _ c.loop-i-test.false c.loop-i.invariant
    ∙ ap (λ xs. c.args.out.now.items ++ flat_map (sequence_rule c.args.problem.now) xs) c.sequences-sequences.ensures.value

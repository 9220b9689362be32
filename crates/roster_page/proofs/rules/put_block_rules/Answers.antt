use Rattle.made_problems.proofs.Pieces.{piece_more}
use Rattle.roster_page.specs.PageText.{block_rule}
use Rattle.roster_page.proofs.rules.put_block_rules.Goals as goal

pub loop-place-preserved : goal.loop-place-preserved
loop-place-preserved c =
    piece_more (block_rule c.args.problem.now) c.loop-place.place c.args.out.now.items c.loop-place.out.items c.put_block_rule.new.out.items c.loop-place.invariant c.in_ok-put_block_rule.ensures

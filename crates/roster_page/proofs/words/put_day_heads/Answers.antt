use Rattle.made_problems.proofs.Pieces.{piece_more}
use Rattle.roster_page.specs.PageText.{day_head}
use Rattle.roster_page.proofs.words.put_day_heads.Goals as goal

pub loop-day-preserved : goal.loop-day-preserved
loop-day-preserved c =
    piece_more day_head c.loop-day.day c.args.out.now.items c.loop-day.out.items c.put_day_head.new.out.items c.loop-day.invariant c.in_ok-put_day_head.ensures

use Rattle.made_problems.proofs.Pieces.{piece_more}
use Rattle.roster_page.specs.PageText.{shift_row}
use Rattle.roster_page.proofs.legend.put_shift_rows.Goals as goal

pub loop-place-preserved : goal.loop-place-preserved
loop-place-preserved c =
    piece_more (shift_row c.args.problem.now) c.loop-place.place c.args.out.now.items c.loop-place.out.items c.put_shift_row.new.out.items c.loop-place.invariant c.in_ok-put_shift_row.ensures

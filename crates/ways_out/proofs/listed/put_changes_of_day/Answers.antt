use Rattle.ways_out.specs.Changes.{demand_changes}
use Rattle.ways_out.proofs.Pieces.{piece_more}
use Rattle.ways_out.proofs.AllChanges.{both_more}
use Rattle.ways_out.proofs.listed.put_changes_of_day.Goals as goal

pub loop-place-preserved : goal.loop-place-preserved
loop-place-preserved c =
    piece_more (demand_changes c.args.day) 1 c.loop-place.place c.args.out.now.items c.loop-place.out.items _ c.loop-place.invariant
    (both_more c.args.day c.loop-place.place c.loop-place.out.items c.push.new.self.items _ c.in_ok-push.ensures.items c.in_ok-push-2.ensures.items)

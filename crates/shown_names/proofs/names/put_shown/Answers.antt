use Rattle.std.proofs.Common.{refl}
use Rattle.shown_names.proofs.Written.{shown_step, shown_done}
use Rattle.shown_names.proofs.names.put_shown.Goals as goal

pub loop-i-preserved : goal.loop-i-preserved
loop-i-preserved c =
    let loop = c.loop-i in
    shown_step c.args.out.now.items loop.out.items c.put_next.new.out.items c.args.name.now loop.more c.in_ok-more.more loop.i _ refl loop.invariant c.in_ok-more.ensures

pub returns : goal.returns
returns c =
    let loop = c.loop-i in
    shown_done c.args.out.now.items loop.out.items c.args.name.now loop.more loop.i c.loop-i-test.false loop.invariant

use Rattle.crew_calendar.specs.Csv.{doubled}
use Rattle.crew_calendar.proofs.Written.{byte_more, bytes_done}
use Rattle.crew_calendar.proofs.csv.put_all_doubled.Goals as goal

pub loop-b-preserved : goal.loop-b-preserved
loop-b-preserved c =
    let loop = c.loop-b in
    byte_more doubled c.args.out.now.items loop.out.items c.put_doubled.new.out.items c.args.text.now loop.b-index c.loop-b-test.true loop.invariant c.in_ok-put_doubled.ensures

pub returns : goal.returns
returns c =
    let loop = c.loop-b in
    bytes_done doubled c.args.out.now.items loop.out.items c.args.text.now loop.b-index c.loop-b-test.false loop.invariant

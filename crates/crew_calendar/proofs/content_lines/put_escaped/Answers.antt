use Rattle.crew_calendar.specs.ContentLines.{escape}
use Rattle.crew_calendar.proofs.Written.{byte_more, bytes_done}
use Rattle.crew_calendar.proofs.content_lines.put_escaped.Goals as goal

pub loop-b-preserved : goal.loop-b-preserved
loop-b-preserved c =
    let loop = c.loop-b in
    byte_more escape c.args.out.now.items loop.out.items c.put_escape.new.out.items c.args.text.now loop.b-index c.loop-b-test.true loop.invariant c.in_ok-put_escape.ensures

pub returns : goal.returns
returns c =
    let loop = c.loop-b in
    bytes_done escape c.args.out.now.items loop.out.items c.args.text.now loop.b-index c.loop-b-test.false loop.invariant

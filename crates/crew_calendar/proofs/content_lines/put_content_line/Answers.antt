use Rattle.crew_calendar.proofs.Written.{row_more, rows_done}
use Rattle.crew_calendar.proofs.content_lines.put_content_line.Goals as goal

pub loop-b-preserved : goal.loop-b-preserved
loop-b-preserved c =
    let loop = c.loop-b in record {
      row = c.in_ok-column.ensures.row;
      folded = row_more c.args.out.now.items loop.out.items c.put_in_row.new.out.items c.args.line.now loop.column _ loop.b-index c.loop-b-test.true loop.invariant.folded c.in_ok-column.ensures.folded;
    }

pub returns : goal.returns
returns c =
    let loop = c.loop-b in
    rows_done c.args.out.now.items loop.out.items c.extend_from_slice.new.self.items c.args.line.now loop.column loop.b-index c.loop-b-test.false loop.invariant.folded c.in_ok-extend_from_slice.ensures.items

use Rattle.std.proofs.Common.{arith}
use Rattle.crew_calendar.proofs.Written.{put_in_full, put_in_new}
use Rattle.crew_calendar.proofs.content_lines.put_in_row.Goals as goal

pub returns-then-column-width-le-LONGEST_ROW-clause-folded :
    goal.returns-then-column-width-le-LONGEST_ROW-clause-folded
returns-then-column-width-le-LONGEST_ROW-clause-folded c =
    put_in_full c.args.out.now.items c.push.new.self.items c.args.column c.args.b c.width.result c.width.ensures.value (omega arith) c.in_ok-push.ensures.items

pub returns-clause-folded : goal.returns-clause-folded
returns-clause-folded c =
    put_in_new c.args.out.now.items c.extend_from_slice.new.self.items c.push-2.new.self.items c.args.column c.args.b c.width.result c.width.ensures.value (omega arith) c.in_ok-extend_from_slice.ensures.items c.in_ok-push-2.ensures.items

use Rattle.std.proofs.Common.{codes, ◌++◌, ap, ◌∙◌}
use Rattle.crew_calendar.specs.ContentLines.{content_line}
use Rattle.crew_calendar.proofs.EventLines.{three_lines}
use Rattle.crew_calendar.proofs.events.put_first_lines.Goals as goal

pub returns : goal.returns
returns c =
    three_lines c.args.out.now.items c.put_content_line.new.out.items c.put_content_line-2.new.out.items c.put_content_line-3.new.out.items
    (codes "BEGIN:VCALENDAR") (codes "VERSION:2.0") (codes "PRODID:-//rwsp//crew calendar//EN")
    (c.in_ok-put_content_line.ensures ∙ ap (λ l. c.args.out.now.items ++ content_line l) c.as_slice.ensures)
    (c.in_ok-put_content_line-2.ensures ∙ ap (λ l. c.put_content_line.new.out.items ++ content_line l) c.as_slice-2.ensures)
    (c.in_ok-put_content_line-3.ensures ∙ ap (λ l. c.put_content_line-2.new.out.items ++ content_line l) c.as_slice-3.ensures)

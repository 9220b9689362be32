use Rattle.std.proofs.Common.{codes, ◌++◌, ap, ◌∙◌}
use Rattle.crew_calendar.specs.ContentLines.{content_line}
use Rattle.crew_calendar.specs.Events.{uid_line, stamp_line}
use Rattle.crew_calendar.proofs.EventLines.{three_lines}
use Rattle.crew_calendar.proofs.events.put_opening.Goals as goal

pub returns : goal.returns
returns c =
    three_lines c.args.out.now.items c.put_content_line.new.out.items c.put_content_line-2.new.out.items c.put_content_line-3.new.out.items
    (codes "BEGIN:VEVENT") (uid_line c.args.wanted.now.employee c.args.date) (stamp_line c.args.wanted.now.first)
    (c.in_ok-put_content_line.ensures ∙ ap (λ l. c.args.out.now.items ++ content_line l) c.as_slice.ensures)
    (c.in_ok-put_content_line-2.ensures ∙ ap (λ l. c.put_content_line.new.out.items ++ content_line l) (c.deref.ensures.value ∙ c.in_ok-uid.ensures))
    (c.in_ok-put_content_line-3.ensures ∙ ap (λ l. c.put_content_line-2.new.out.items ++ content_line l) (c.deref-2.ensures.value ∙ c.in_ok-stamp.ensures))

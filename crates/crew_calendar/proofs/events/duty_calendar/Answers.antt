use Rattle.std.proofs.Common.{◌≡◌, ◌+◌, ◌++◌, codes, ap, ◌∙◌, arith}
use Rattle.std.specs.List.{flat_map, range_with_len}
use Rattle.crew_calendar.specs.declared.dates.TheConstants.{MOST_DAYS_LATER}
use Rattle.crew_calendar.specs.ContentLines.{content_line, content_text}
use Rattle.crew_calendar.specs.Events.{first_lines, events_on}
use Rattle.crew_calendar.proofs.Calendars.{fewer_fit, calendar_from, is_calendar}
use Rattle.crew_calendar.proofs.EventLines.{days_more, last_line}
use Rattle.crew_calendar.proofs.events.duty_calendar.Goals as goal

pub put_duty_event-requires-clause-within : goal.put_duty_event-requires-clause-within
put_duty_event-requires-clause-within c = fewer_fit c.args.date _ (c.args.days + MOST_DAYS_LATER) (omega arith) c.requires.fits

pub loop-t-preserved : goal.loop-t-preserved
loop-t-preserved c =
    let P = c.args.problem.now in
    let on = calendar_from c.args.date in
    let event = c.in_ok-put_duty_event.ensures on (λ t less. is_calendar c.args.date (c.args.days + MOST_DAYS_LATER) c.requires.fits t (omega (arith, less))) in
    days_more (events_on P c.args.roster.now.cells c.args.date on c.args.employee) first_lines c.loop-t.t c.loop-t.out.items c.put_duty_event.new.out.items c.loop-t.invariant
    (event ∙ ap (λ s. c.loop-t.out.items ++ content_text (events_on P s c.args.date on c.args.employee c.loop-t.t)) c.cells.ensures)

pub returns : goal.returns
returns c =
    let P = c.args.problem.now in
    let on = calendar_from c.args.date in
    let f = events_on P c.args.roster.now.cells c.args.date on c.args.employee in
    let end : c.loop-t.t ≡ c.args.days = omega arith in
    record {
      on = on;
      calendar = is_calendar c.args.date _ c.requires.fits;
      is = last_line c.loop-t.out.items c.put_content_line.new.out.items (first_lines ++ flat_map f (range_with_len 0 c.args.days)) (codes "END:VCALENDAR")
          (c.loop-t.invariant ∙ ap (λ n. content_text (first_lines ++ flat_map f (range_with_len 0 n))) end)
          (c.in_ok-put_content_line.ensures ∙ ap (λ l. c.loop-t.out.items ++ content_line l) c.as_slice.ensures);
    }

use Rattle.std.proofs.Common.{◌≡◌, ◌+◌, ◌++◌, ap, ◌∙◌, arith}
use Rattle.crew_calendar.specs.declared.dates.TheConstants.{MOST_DAYS_LATER}
use Rattle.crew_calendar.specs.Texts.{duty_line, duties_text}
use Rattle.crew_calendar.proofs.Appended.{day_more}
use Rattle.crew_calendar.proofs.Calendars.{fewer_fit, calendar_from, is_calendar}
use Rattle.crew_calendar.proofs.duty_lines.duties.Goals as goal

pub put_duty-requires-clause-within : goal.put_duty-requires-clause-within
put_duty-requires-clause-within c = fewer_fit c.args.date _ (c.args.days + MOST_DAYS_LATER) (omega arith) c.requires.fits

pub loop-t-preserved : goal.loop-t-preserved
loop-t-preserved c =
    let P = c.args.problem.now in
    let on = calendar_from c.args.date in
    let line = c.in_ok-put_duty.ensures on (λ t less. is_calendar c.args.date (c.args.days + MOST_DAYS_LATER) c.requires.fits t (omega (arith, less))) in
    day_more (duty_line P c.args.roster.now.cells on c.args.employee) c.loop-t.t c.loop-t.out.items c.put_duty.new.out.items c.loop-t.invariant
    (line ∙ ap (λ s. c.loop-t.out.items ++ duty_line P s on c.args.employee c.loop-t.t) c.cells.ensures)

pub returns : goal.returns
returns c =
    let end : c.loop-t.t ≡ c.args.days = omega arith in
    record {
      on = calendar_from c.args.date;
      calendar = is_calendar c.args.date _ c.requires.fits;
      is = c.loop-t.invariant ∙ ap (λ n. duties_text c.args.problem.now c.args.roster.now.cells (calendar_from c.args.date) c.args.employee n) end;
    }

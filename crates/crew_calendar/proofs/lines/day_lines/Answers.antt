use Rattle.std.proofs.Common.{◌≡◌, ◌<◌, ◌+◌, ◌∷◌, [], ◌++◌, ap, sym, ◌∙◌, arith}
use Rattle.crew_calendar.specs.Calendar.{date_text}
use Rattle.crew_calendar.specs.declared.dates.TheConstants.{MOST_DAYS_LATER}
use Rattle.crew_calendar.specs.Texts.{day_line, crew_text, table_text}
use Rattle.crew_calendar.proofs.Appended.{day_more}
use Rattle.crew_calendar.proofs.Calendars.{fewer_fit, calendar_from, is_calendar, one_text}
use Rattle.crew_calendar.proofs.lines.day_lines.Goals as goal

pub date_after-requires-clause-within : goal.date_after-requires-clause-within
date_after-requires-clause-within c = fewer_fit c.args.date _ (c.args.days + MOST_DAYS_LATER) (omega arith) c.requires.fits

pub loop-t-preserved : goal.loop-t-preserved
loop-t-preserved c =
    let P = c.args.problem.now in
    let on = calendar_from c.args.date in
    let less : c.loop-t.t < c.args.days + MOST_DAYS_LATER = omega arith in
    let day : date_text c.date_after.result ≡ date_text (on c.loop-t.t) = one_text c.date_after.result (on c.loop-t.t) (c.date_after.ensures ∙ sym (is_calendar c.args.date (c.args.days + MOST_DAYS_LATER) c.requires.fits c.loop-t.t less)) in
    day_more (day_line P c.args.cells.now on) c.loop-t.t c.loop-t.out.items c.put_day.new.out.items c.loop-t.invariant
    (c.in_ok-put_day.ensures ∙ ap (λ text. c.loop-t.out.items ++ (text ++ crew_text P c.args.cells.now c.loop-t.t ++ 10 ∷ [])) day)

pub returns : goal.returns
returns c =
    let end : c.loop-t.t ≡ c.args.days = omega arith in
    record {
      on = calendar_from c.args.date;
      calendar = is_calendar c.args.date _ c.requires.fits;
      is = c.loop-t.invariant ∙ ap (λ n. table_text c.args.problem.now c.args.cells.now (calendar_from c.args.date) n) end;
    }

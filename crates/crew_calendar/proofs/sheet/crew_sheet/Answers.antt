use Rattle.std.proofs.Common.{◌≡◌, ◌<◌, ◌+◌, ◌∷◌, ◌++◌, map, ap, sym, ◌∙◌, arith}
use Rattle.std.proofs.lemmas.List.{append-nil}
use Rattle.std.specs.List.{range_with_len}
use Rattle.crew_calendar.specs.Calendar.{date_text, weekday_text}
use Rattle.crew_calendar.specs.declared.dates.TheConstants.{MOST_DAYS_LATER}
use Rattle.crew_calendar.specs.Crew.{employees}
use Rattle.crew_calendar.specs.Csv.{record_text, records_text}
use Rattle.crew_calendar.specs.Sheet.{head_cells, cell, day_cells}
use Rattle.crew_calendar.proofs.Calendars.{fewer_fit, calendar_from, is_calendar, one_text}
use Rattle.crew_calendar.proofs.Sheets.{one_weekday, sheet_more}
use Rattle.crew_calendar.proofs.sheet.crew_sheet.Goals as goal

pub loop-t-init : goal.loop-t-init
loop-t-init c =
    let head = record_text (head_cells c.args.problem.now) in
    c.in_ok-put_head.ensures ∙ ap (λ o. o ++ head) c.new-out.ensures.items ∙ sym (append-nil head)

pub date_after-requires-clause-within : goal.date_after-requires-clause-within
date_after-requires-clause-within c = fewer_fit c.args.date _ (c.args.days + MOST_DAYS_LATER) (omega arith) c.requires.fits

pub loop-t-preserved : goal.loop-t-preserved
loop-t-preserved c =
    let P = c.args.problem.now in
    let s = c.args.roster.now.cells in
    let on = calendar_from c.args.date in
    let t = c.loop-t.t in
    let date = c.date_after.result in
    let less : t < c.args.days + MOST_DAYS_LATER = omega arith in
    let day = c.date_after.ensures ∙ sym (is_calendar c.args.date (c.args.days + MOST_DAYS_LATER) c.requires.fits t less) in
    let names = map (cell P s t) (employees P) in
    sheet_more (day_cells P s on) t (record_text (head_cells P)) c.loop-t.out.items c.put_sheet_day.new.out.items c.loop-t.invariant
    (c.in_ok-put_sheet_day.ensures
    ∙ ap (λ s. c.loop-t.out.items ++ record_text (date_text date ∷ weekday_text date ∷ map (cell P s t) (employees P))) c.cells.ensures
    ∙ ap (λ d. c.loop-t.out.items ++ record_text (d ∷ weekday_text date ∷ names)) (one_text date (on t) day)
    ∙ ap (λ w. c.loop-t.out.items ++ record_text (date_text (on t) ∷ w ∷ names)) (one_weekday date (on t) day))

pub returns : goal.returns
returns c =
    let P = c.args.problem.now in
    let end : c.loop-t.t ≡ c.args.days = omega arith in
    record {
      on = calendar_from c.args.date;
      calendar = is_calendar c.args.date _ c.requires.fits;
      is = c.loop-t.invariant ∙ ap (λ n. record_text (head_cells P) ++ records_text (map (day_cells P c.args.roster.now.cells (calendar_from c.args.date)) (range_with_len 0 n))) end;
    }

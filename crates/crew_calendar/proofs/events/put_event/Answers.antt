use Rattle.std.proofs.Common.{◌≡◌, ◌≤◌, ◌+◌, ◌*◌, ◌/◌, ◌++◌, ap, sym, ◌∙◌, arith}
use Rattle.rwsp_terms.specs.Instance.{name_of}
use Rattle.crew_calendar.specs.declared.dates.TheConstants.{MOST_DAYS_LATER}
use Rattle.crew_calendar.specs.Texts.{day_minutes, start_of, length_of}
use Rattle.crew_calendar.specs.ContentLines.{content_text}
use Rattle.crew_calendar.specs.Events.{opening_lines, time_lines, closing_lines}
use Rattle.crew_calendar.proofs.EventLines.{parts_put, opening_same}
use Rattle.crew_calendar.proofs.events.put_event.Goals as goal

pub returns : goal.returns
returns c on calendar =
    let P = c.args.problem.now in
    let first = c.args.wanted.now.first in
    let e = c.args.wanted.now.employee in
    let start = c.args.t * day_minutes + c.start_of.result in
    let fits : (start + c.length_of.result) / day_minutes + 1 ≤ c.args.t + 1 + MOST_DAYS_LATER = omega (arith, c.start_of.ensures.few, c.length_of.ensures.few) in
    let starts : start ≡ c.args.t * day_minutes + start_of P c.args.shift = ap (λ n. c.args.t * day_minutes + n) c.start_of.ensures.value in
    let times = c.in_ok-put_times.ensures on (λ t less. calendar t (omega (arith, less, fits))) in
    parts_put c.args.out.now.items c.put_opening.new.out.items c.put_times.new.out.items c.put_closing.new.out.items
    (opening_lines first (on c.args.t) e) (time_lines on (c.args.t * day_minutes + start_of P c.args.shift) (length_of P c.args.shift)) (closing_lines (name_of P c.args.shift))
    (c.in_ok-put_opening.ensures ∙ ap (λ ls. c.args.out.now.items ++ content_text ls) (opening_same first c.date_after.result (on c.args.t) e (c.date_after.ensures ∙ sym (calendar c.args.t (omega arith)))))
    (times ∙ ap (λ n. c.put_opening.new.out.items ++ content_text (time_lines on n c.length_of.result)) starts ∙ ap (λ n. c.put_opening.new.out.items ++ content_text (time_lines on (c.args.t * day_minutes + start_of P c.args.shift) n)) c.length_of.ensures.value)
    (c.in_ok-put_closing.ensures ∙ ap (λ n. c.put_times.new.out.items ++ content_text (closing_lines n)) c.name.ensures)

use Rattle.std.proofs.Common.{◌≡◌, ◌/◌, ◌%◌, ◌∷◌, ◌++◌, codes, ap, sym, ◌∙◌, arith}
use Rattle.crew_calendar.specs.Texts.{two_digits, day_minutes}
use Rattle.crew_calendar.specs.ContentLines.{content_line}
use Rattle.crew_calendar.specs.Events.{compact_date, compact_moment, moment_at}
use Rattle.crew_calendar.proofs.EventLines.{one_compact, moment_line_put}
use Rattle.crew_calendar.proofs.events.put_moment_line.Goals as goal

pub returns : goal.returns
returns c on calendar =
    let t = c.args.minutes / day_minutes in
    let m = c.args.minutes % day_minutes in
    let day : compact_date c.date_after.result ≡ compact_date (on t) = one_compact c.date_after.result (on t) (c.date_after.ensures ∙ sym (calendar t (omega arith))) in
    let at : compact_moment c.date_after.result m ≡ moment_at on c.args.minutes = ap (λ d. d ++ 84 ∷ two_digits (m / 60) ++ two_digits (m % 60) ++ codes "00") day in
    moment_line_put c.args.out.now.items c.put_content_line.new.out.items c.put_compact_moment.new.out.items c.in_ok-line.line.items c.args.label.now (compact_moment c.date_after.result m) (moment_at on c.args.minutes)
    c.in_ok-line.ensures.items c.in_ok-put_compact_moment.ensures at
    (c.in_ok-put_content_line.ensures ∙ ap (λ l. c.args.out.now.items ++ content_line l) c.deref.ensures.value)

use Rattle.std.proofs.Common.{◌≡◌, ◌/◌, ◌%◌, ◌++◌, ap, sym, ◌∙◌, arith}
use Rattle.crew_calendar.specs.Calendar.{date_text}
use Rattle.crew_calendar.specs.Texts.{day_minutes, clock_text}
use Rattle.crew_calendar.proofs.Appended.{moment_joined}
use Rattle.crew_calendar.proofs.Calendars.{one_text}
use Rattle.crew_calendar.proofs.duty_lines.put_moment.Goals as goal

pub returns : goal.returns
returns c on calendar =
    let t = c.args.minutes / day_minutes in
    let day : date_text c.date_after.result ≡ date_text (on t) = one_text c.date_after.result (on t) (c.date_after.ensures ∙ sym (calendar t (omega arith))) in
    moment_joined c.args.out.now.items (date_text (on t)) c.put_date.new.out.items c.push.new.self.items (clock_text (c.args.minutes % day_minutes)) c.put_clock.new.out.items
    (c.in_ok-put_date.ensures.ok ∙ ap (λ text. c.args.out.now.items ++ text) day) c.in_ok-push.ensures.items c.in_ok-put_clock.ensures

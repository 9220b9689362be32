use Rattle.std.proofs.Common.{◌/◌, ◌%◌, codes}
use Rattle.crew_calendar.specs.Texts.{two_digits}
use Rattle.crew_calendar.specs.Events.{compact_date}
use Rattle.crew_calendar.proofs.EventLines.{moment_put}
use Rattle.crew_calendar.proofs.events.put_compact_moment.Goals as goal

pub returns : goal.returns
returns c =
    moment_put c.args.out.now.items c.put_compact_date.new.out.items c.push.new.self.items c.put_two_digits.new.out.items c.put_two_digits-2.new.out.items c.extend_from_slice.new.self.items
    (compact_date c.args.date) (two_digits (c.args.minutes / 60)) (two_digits (c.args.minutes % 60)) (codes "00")
    c.in_ok-put_compact_date.ensures c.in_ok-push.ensures.items c.in_ok-put_two_digits.ensures c.in_ok-put_two_digits-2.ensures c.in_ok-extend_from_slice.ensures.items

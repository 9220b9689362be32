use Rattle.std.proofs.Common.{arith}
use Rattle.crew_calendar.proofs.EventLines.{event_put}
use Rattle.crew_calendar.proofs.events.put_duty_event.Goals as goal

pub returns : goal.returns
returns c =
    event_put c.args.problem.now c.args.cells.now c.args.wanted.now.employee c.args.t _ c.args.wanted.now.first _ _ _ c.put_event.result c.symbol_on-symbol.ensures (omega arith) c.put_event.ensures

use Rattle.std.proofs.Common.{arith}
use Rattle.crew_calendar.proofs.Appended.{duty_put}
use Rattle.crew_calendar.proofs.Standing.{on_symbol}
use Rattle.crew_calendar.proofs.duty_lines.put_duty.Goals as goal

pub put_shift-requires-clause-shift : goal.put_shift-requires-clause-shift
put_shift-requires-clause-shift c = (
  omega arith,
  on_symbol c.args.problem.now c.args.cells.now c.args.employee c.args.t _ c.requires.roster c.symbol_on-symbol.ensures,
)

pub returns : goal.returns
returns c =
    duty_put c.args.problem.now c.args.cells.now c.args.employee c.args.t _ c.args.date _ _ _ c.put_shift.result c.symbol_on-symbol.ensures (omega arith) c.put_shift.ensures

use Rattle.rwsp_file.specs.LongNumbers.{long_number_at}
use Rattle.rwsp_file.proofs.ManySteps.{HasRead}
use Rattle.rwsp_file.proofs.long_numbers.read_lines.Given as goal

abbrev pub invariant-loop-i : goal.invariant-loop-i
invariant-loop-i l = HasRead long_number_at l.count l.i l.lines.items l.cursor l.fn.cursor

use Rattle.std.proofs.Common.{◌+◌}
use Rattle.rwsp_file.specs.Reading.{numbered_at}
use Rattle.rwsp_file.proofs.ManySteps.{HasRead}
use Rattle.rwsp_file.proofs.sequences.read_sequences.Given as goal

abbrev pub invariant-loop-i : goal.invariant-loop-i
invariant-loop-i l = HasRead (numbered_at l.shifts l.frame.pairs) (l.frame.pairs + l.frame.triples) l.i l.sequences.items l.cursor l.fn.cursor

use Rattle.std.proofs.Common.{length}
use Rattle.roster_print.specs.Said.{said_of}
use Rattle.roster_print.proofs.Reading.{Progress}
use Rattle.roster_print.proofs.read.read_lines.Given as goal

abbrev pub invariant-loop-text : goal.invariant-loop-text
invariant-loop-text l = Progress l.problem (said_of l.problem l.lets_open) l.bytes l.said.items l.weeks l.line l.reader

abbrev pub decreases-loop-text : goal.decreases-loop-text
decreases-loop-text l = length l.reader

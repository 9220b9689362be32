use Rattle.std.proofs.Common.{◌≡◌, ◌++◌}
use Rattle.std.specs.Prelude.{replicate}
use Rattle.refutation_terms.specs.declared.lines.Line.TheVariants.{Unfinished}
use Rattle.roster_search.proofs.ending.leave_open.Given as goal

abbrev pub invariant-loop : goal.invariant-loop
invariant-loop l = l.lines.items ≡ l.fn.lines.items ++ replicate l.counter Unfinished

use Rattle.std.proofs.Common.{◌<◌}
use Rattle.roster_finder.proofs.cuts.Parts.root.Given as goal

abbrev pub invariant-loop : goal.invariant-loop
invariant-loop l = l.at < l.self.above.below

-- The counts are of the problem's days, weeks and shifts.
use Rattle.std.proofs.Common.{◌≡◌, rules}
use Rattle.refutation_terms.specs.DayLeaf.{fixed}
use Rattle.propagators.specs.Counted.{has_counted}
use Rattle.propagators.proofs.OverrunLemmas.{fixed_here}
use Rattle.propagators.proofs.counts.Counts.is_over.Goals as goal

pub returns : goal.returns
returns c =
    let P = c.args.problem.now in
    let C = c.args.self.now in
    let same : c.fixed-fixed.result ≡ fixed P (has_counted C) c.args.day c.args.x.number = fixed_here P C c.args.day c.args.x.number _ c.requires.problem c.fixed-fixed.ensures.kept in
    search rules

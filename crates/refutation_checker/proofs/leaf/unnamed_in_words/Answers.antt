use Rattle.std.proofs.Common.{false}
use Rattle.refutation_terms.specs.declared.lines.Line.TheVariants.{Closing}
use Rattle.refutation_terms.specs.declared.lines.Leaf.TheVariants.{Words}
use Rattle.refutation_terms.specs.declared.lines.WordClaim.TheVariants.{Dead, Light}
use Rattle.refutation_log.proofs.CitedRules.{listed_cited, weighed_cited, line_numbered}
use Rattle.refutation_checker.proofs.Lists.{found_unnamed}
use Rattle.refutation_checker.proofs.leaf.unnamed_in_words.Goals as goal

pub returns-in-Dead : goal.returns-in-Dead
returns-in-Dead c =
    let P = c.args.problem.now in
    let R = c.args.rules.now in
    let fits = rw c.in-Dead.is at c.requires.2 in
    rw c.in-Dead.is (found_unnamed P c.args.named.now _ _ c.least_outside.result (line_numbered P c.requires.0 false (Closing (Words c.requires.1 R (Dead c.in-Dead.len))) fits)
    (listed_cited P R fits.2) c.least_outside.ensures)

pub returns-in-Light : goal.returns-in-Light
returns-in-Light c =
    let P = c.args.problem.now in
    let R = c.args.rules.now in
    let light = c.in-Light in
    let fits = rw light.is at c.requires.2 in
    rw light.is (found_unnamed P c.args.named.now _ _ c.least_of_words.result (line_numbered P c.requires.0 false (Closing (Words c.requires.1 R (Light light.turns light.reward light.weights))) fits)
    (weighed_cited P R light.weights fits.2 fits.3.0) c.least_of_words.ensures)

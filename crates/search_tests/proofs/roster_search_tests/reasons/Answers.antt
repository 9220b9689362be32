-- The two serve the problem, and have its window and day leaves.
use Rattle.std.proofs.Common.{inl, inr}
use Rattle.refutation_terms.specs.declared.lines.Line.TheVariants.{Closing}
use Rattle.refutation_terms.specs.declared.lines.Leaf.TheVariants.{Window, Day}
use Rattle.search_tests.proofs.roster_search_tests.reasons.Goals as goal

pub returns-clause-serves : goal.returns-clause-serves
returns-clause-serves c = (c.new-4.ensures.serves c.args.problem.now).1 (c.in_ok-windows.ensures.serves, c.in_ok-days.ensures.serves)

pub returns-clause-plain : goal.returns-clause-plain
returns-clause-plain c = record {
  windows = λ S number p len fits. (c.new-4.ensures.leaves S (Closing (Window number p len))).1 (inl (c.in_ok-windows.ensures.leaves S number p len fits));
  days = λ S j x over fits. (c.new-4.ensures.leaves S (Closing (Day j x over))).1 (inr (c.in_ok-days.ensures.leaves S j x over fits));
}

use Rattle.std.proofs.Common.{List, length, Option, ℕ, Bool}
use Rattle.rwsp_terms.specs.Instance.{Instance}
use Rattle.refutation_terms.specs.declared.lines.Line.{Line}
use Rattle.refutation_terms.specs.Tree.{IsTree}
use Rattle.refutation_checker.specs.UnreadSplits.{LeadInto}
use Rattle.refutation_checker.proofs.unread_splits.pass_leaf.Given as goal

abbrev pub invariant-loop-split : goal.invariant-loop-split
invariant-loop-split l = (P : Instance) (g : Option ℕ) (m : Bool) (lines : List Line) → LeadInto P g m IsTree l.fn.splits.items lines → LeadInto P g m IsTree l.splits.items lines

abbrev pub decreases-loop-split : goal.decreases-loop-split
decreases-loop-split l = length l.splits.items

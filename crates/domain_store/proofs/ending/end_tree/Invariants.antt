use Rattle.std.proofs.Common.{◌≡◌, List, length}
use Rattle.refutation_terms.specs.declared.lines.Line.{Line}
use Rattle.refutation_terms.specs.Word.{Domains}
use Rattle.refutation_terms.specs.Tree.{IsTree}
use Rattle.domain_store.specs.Store.{HasSameShape}
use Rattle.domain_store.specs.Splits.{InSplits, second_sides_to_come}
use Rattle.domain_store.proofs.ending.end_tree.Given as goal

abbrev pub invariant-loop-split : goal.invariant-loop-split
invariant-loop-split l = record {
  same : HasSameShape l.fn.domains l.domains;
  counted : second_sides_to_come l.splits.items ≡ second_sides_to_come l.fn.splits.items;
  behind : (D : Domains) (lines : List Line) → InSplits IsTree (length l.fn.domains.sets) l.fn.domains D 0 l.fn.splits.items lines → InSplits IsTree (length l.fn.domains.sets) l.domains D 0 l.splits.items lines;
}

abbrev pub decreases-loop-split : goal.decreases-loop-split
decreases-loop-split l = length l.splits.items

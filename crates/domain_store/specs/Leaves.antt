-- A leaf that holds, of a log with a goal or without one. Searches give no others: their logs may not count blocks.
use Rattle.std.specs.Prelude.{ℕ, false, Option}
use Rattle.rwsp_terms.specs.Instance.{Instance}
use Rattle.refutation_terms.specs.declared.lines.Line.{Line}
use Rattle.refutation_terms.specs.Word.{Domains}
use Rattle.refutation_terms.specs.Tree.{IsLeaf}
use Rattle.refutation_terms.specs.Log.{Holds, LineFits, ListsShortOnly}

-- a leaf of a log that may not count, with its numbers in their ranges, with short rules only in its list, and it holds
-- under the domains, for this goal or none
pub record IsHoldingLeaf (P : Instance) (goal : Option ℕ) (D : Domains) (line : Line) : Type 0 where
  pub leaf : IsLeaf line
  pub fits : LineFits P goal false line
  pub short : ListsShortOnly P line
  pub holds : Holds P goal D line

-- Laws of the trees and the logs that a search ends with, as the contracts of src/laws.rt state them.
use Rattle.std.specs.Prelude.{ℕ, ◌+◌, ◌*◌, ◌^◌, ◌<◌, ◌≤◌, Bool, true, false, length, count_by}
use Rattle.rwsp_terms.specs.Instance.{Instance, cells, shift_count}
use Rattle.refutation_terms.specs.declared.lines.Line.{Line}
use Rattle.refutation_terms.specs.declared.lines.Line.TheVariants.{Split}
use Rattle.refutation_terms.specs.Tree.{IsTree}
use Rattle.refutation_terms.specs.Log.{Log, Fits, IsSpent}
use Rattle.refutation_terms.specs.Laws.{HasNoIdleSplit}

-- every line but a split
abbrev pub is_leaf : Line → Bool
is_leaf (Split p x) = false
is_leaf line = true

-- a finished tree whose splits aren't idle has at most (K+1)^L leaves
abbrev pub TreesHaveFewLeaves : Type 0
TreesHaveFewLeaves =
    (P : Instance) (g : Log)
    → Fits P g → IsTree g.lines → HasNoIdleSplit P g.opening g.lines (length g.lines)
    → count_by is_leaf g.lines ≤ (shift_count P + 1) ^ cells P

-- so it has less than twice as many lines, and a spent log has a budget below that
abbrev pub SpentBudgetsAreSmall : Type 0
SpentBudgetsAreSmall =
    (P : Instance) (g : Log) (budget : ℕ)
    → IsSpent P g budget → budget + 1 < 2 * (shift_count P + 1) ^ cells P

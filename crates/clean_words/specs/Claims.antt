-- The goal of a log for an instance, and what is claimed of words under it.
use Rattle.std.specs.Prelude.{ℕ, ◌+◌, ◌≤◌, List, Option, Some, None, MatchOption}
use Rattle.rwsp_terms.specs.declared.data.Symbol.{Symbol}
use Rattle.rwsp_terms.specs.Instance.{Instance}
use Rattle.refutation_terms.specs.declared.lines.WordClaim.{WordClaim}
use Rattle.refutation_terms.specs.Word.{Domains}
use Rattle.refutation_terms.specs.WordsLeaf.{WordsHold, WordsEscape}

-- a goal is at most one more than the weeks
abbrev pub IsGoalOf : Instance → Option ℕ → Type 0
IsGoalOf P None = Unit {0}
IsGoalOf P (Some goal) = goal ≤ P.weeks + 1

-- the word that escapes what is claimed of words, or none exactly where it holds
abbrev pub IsEscapeFound : Instance → Option ℕ → Domains → ℕ → List ℕ → WordClaim → Option (List Symbol) → Type 0
IsEscapeFound P goal D p R claim found = MatchOption found (WordsHold P goal D p R claim) (WordsEscape P goal D p R claim)

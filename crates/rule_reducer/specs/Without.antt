-- Lines that hold without a rule.
use Rattle.std.specs.Prelude.{◌≡◌, ℕ, Bool, MatchBool, length, slice_get, Some}
use Rattle.rwsp_terms.specs.Instance.{Instance}
use Rattle.refutation_terms.specs.declared.lines.Line.{Line}
use Rattle.refutation_terms.specs.Tree.{domains_at}
use Rattle.refutation_terms.specs.Log.{Log, Holds, HoldsAt}
use Rattle.refutation_terms.specs.Strip.{strip_line}
use Rattle.domain_store.specs.States.{State, OfLinesRead}
use Rattle.refutation_checker.specs.LineTexts.{Judging}

-- each line of the log still holds where it is with the rule of this number taken out
abbrev pub HoldsWithout : Instance → ℕ → Log → Type 0
HoldsWithout P number g =
    (k : ℕ) (line : Line) → slice_get g.lines k ≡ Some line → HoldsAt P g k (strip_line P number line)

-- whether the line, where it holds behind the lines that the walk has read, doesn't hold there without the rule
abbrev pub TellsWithout : Judging → ℕ → Line → State → Bool → Type 0
TellsWithout J number line w fails =
    OfLinesRead J.problem w (λ o lines. Holds J.problem J.goal (domains_at J.problem o lines (length lines)) line →
    MatchBool fails
    (Holds J.problem J.goal (domains_at J.problem o lines (length lines)) (strip_line J.problem number line) → ⊥)
    (Holds J.problem J.goal (domains_at J.problem o lines (length lines)) (strip_line J.problem number line)))

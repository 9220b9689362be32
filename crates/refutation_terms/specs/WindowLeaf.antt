-- A leaf of one rule: every word of a length from a position on is bad for it.
use Rattle.std.specs.Prelude.{◌≡◌, ℕ, ◌<◌, ◌≤◌, List, [], ◌∷◌, length, Some}
use Rattle.rwsp_terms.specs.declared.data.Symbol.{Symbol}
use Rattle.rwsp_terms.specs.declared.data.Rule.{Rule}
use Rattle.rwsp_terms.specs.Instance.{Instance, cells}
use Rattle.rwsp_terms.specs.Window.{Bad}
use Rattle.rwsp_terms.specs.Rules.{rules, rule_of, Names}
use Rattle.refutation_terms.specs.Word.{Domains, Over}
use Rattle.refutation_terms.specs.Ranges.{IsLength}

-- its numbers are in their ranges
abbrev pub WindowFits : Instance → ℕ → ℕ → ℕ → Type 0
WindowFits P number p len = (0 < number) × (number ≤ length (rules P)) × (p < cells P) × IsLength len

-- it rests on its rule
abbrev pub WindowCites : Instance → ℕ → Rule → Type 0
WindowCites P number r = Names P (number ∷ []) r

-- the number is that of a rule for which every word of this length from p on is bad. No day's rule has bad words
abbrev pub IsBlocked : Instance → Domains → ℕ → ℕ → ℕ → Type 0
IsBlocked P D number p len =
    (r : Rule) × (rule_of P number ≡ Some r) × ((u : List Symbol) → length u ≡ len → Over P D p u → Bad P r p u)

-- Logs that can't do without several of the rules that they name together.
use Rattle.std.specs.Prelude.{◌≢◌, ℕ, List, [], ◌∷◌, Some, All, Contains}
use Rattle.rwsp_terms.specs.declared.data.Rule.TheVariants.{Day}
use Rattle.rwsp_terms.specs.Instance.{Instance}
use Rattle.rwsp_terms.specs.Rules.{rule_of}
use Rattle.refutation_terms.specs.Log.{Log, Passes}
use Rattle.refutation_terms.specs.Strip.{strip}

-- the log without the rules of these numbers
abbrev pub strip_all : Instance → List ℕ → Log → Log
strip_all P [] g = g
strip_all P (number ∷ rest) g = strip_all P rest (strip P number g)

-- the log names the rule of the number, and it isn't that of a day
abbrev pub NamesWindowRule : Instance → Log → ℕ → Type 0
NamesWindowRule P g number = Contains g.named number × ((j : ℕ) → rule_of P number ≢ Some (Day j))

-- it doesn't pass without some of these rules
abbrev pub NeedsTogether : Instance → Log → Type 0
NeedsTogether P g =
    (numbers : List ℕ) → numbers ≢ [] → All (NamesWindowRule P g) numbers → Passes P (strip_all P numbers g) → ⊥

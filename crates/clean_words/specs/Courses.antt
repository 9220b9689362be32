-- What clean words gain, and the best of them.
use Rattle.std.specs.Prelude.{◌≡◌, ◌⊎◌, ℕ, ◌+◌, List, [], ◌∷◌, Bool, false, ◌==◌, ℤ, pos, ◌+ℤ◌, ◌<ℤ◌}
use Rattle.rwsp_terms.specs.declared.data.Symbol.{Symbol}
use Rattle.rwsp_terms.specs.Instance.{Instance}
use Rattle.refutation_terms.specs.Word.{Domains}
use Rattle.refutation_terms.specs.Escape.{ComesFirst, IsCleanOver}
use Rattle.domain_store.specs.Store.{Store, has_domain}
use Rattle.clean_words.specs.Automata.{RuleAutomaton}

-- what the symbols of a word gain, the first on this day, where the day before is off or not
abbrev pub gained : (ℕ → Bool → Symbol → ℤ) → ℕ → Bool → List Symbol → ℤ
gained gain day behind_off [] = pos 0
gained gain day behind_off (x ∷ u) = gain day behind_off x +ℤ gained gain (day + 1) (x.number == 0) u

-- the words over domains, from a position on, that are clean for the rules, and what their symbols gain
pub record Course : Type 0 where
  pub problem : Instance
  pub rules : List ℕ
  pub domains : Domains
  pub position : ℕ
  pub gain : ℕ → Bool → Symbol → ℤ

abbrev pub course : RuleAutomaton → Store → ℕ → (ℕ → Bool → Symbol → ℤ) → Course
course A S p gain = record {
  problem = A.problem;
  rules = A.rules;
  domains = has_domain S;
  position = p;
  gain = gain;
}

-- one of these words, of `days` days
abbrev pub IsOf : Course → ℕ → List Symbol → Type 0
IsOf C days u = IsCleanOver C.problem C.domains C.position days C.rules u

-- what such a word gains
abbrev pub word_gain : Course → List Symbol → ℤ
word_gain C u = gained C.gain 0 false u

-- the other word gains less, or as much and doesn't come before
abbrev pub IsNoWorse : Course → List Symbol → List Symbol → Type 0
IsNoWorse C word other =
    (word_gain C other <ℤ word_gain C word) ⊎ ((word_gain C other ≡ word_gain C word) × ComesFirst word other)

-- the best of all words of `days` days
pub record IsBestOf (C : Course) (days : ℕ) (weight : ℤ) (word : List Symbol) : Type 0 where
  pub clean : IsOf C days word
  pub gains : word_gain C word ≡ weight
  pub best : (u : List Symbol) → IsOf C days u → IsNoWorse C word u

-- all words of `days` days gain less than `least`
abbrev pub AreBelow : Course → ℕ → ℤ → Type 0
AreBelow C days least = (u : List Symbol) → IsOf C days u → word_gain C u <ℤ least

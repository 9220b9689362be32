-- What is found among clean words.
use Rattle.std.specs.Prelude.{ℕ, ℤ, ◌≤ℤ◌, List, Option, MatchOption}
use Rattle.rwsp_terms.specs.declared.data.Symbol.{Symbol}
use Rattle.rwsp_terms.specs.Instance.{Instance}
use Rattle.refutation_terms.specs.Word.{Domains}
use Rattle.refutation_terms.specs.WordsLeaf.{IsDead}
use Rattle.refutation_terms.specs.Escape.{IsLeastClean}
use Rattle.clean_words.specs.declared.heavy_words.HeavyWord.{HeavyWord}
use Rattle.clean_words.specs.Courses.{Course, IsBestOf, AreBelow}

-- the least of the clean words over the domains, or none exactly where there is none
abbrev pub IsLeastFound : Instance → Domains → (p days : ℕ) → List ℕ → Option (List Symbol) → Type 0
IsLeastFound P D p days R found = MatchOption found (IsDead P D p days R) (IsLeastClean P D p days R)

-- the best of the words of a course, or none exactly where each gains less than this
abbrev pub IsBestFound : Course → (days : ℕ) → ℤ → Option HeavyWord → Type 0
IsBestFound C days least found =
    MatchOption found (AreBelow C days least) (λ h. IsBestOf C days h.weight h.word × (least ≤ℤ h.weight))

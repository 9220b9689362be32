-- What is found of the heaviest clean words.
use Rattle.std.specs.Prelude.{◌≡◌, ℕ, List, Option, Some, None, ℤ, ◌≤ℤ◌, ◌<ℤ◌}
use Rattle.rwsp_terms.specs.declared.data.Symbol.{Symbol}
use Rattle.rwsp_terms.specs.Instance.{Instance}
use Rattle.refutation_terms.specs.Word.{Domains}
use Rattle.refutation_terms.specs.Escape.{IsCleanOver, IsLeastHeaviestBy}
use Rattle.clean_words.specs.declared.heavy_words.HeavyWord.{HeavyWord}

-- none where all clean words weigh less than this, else the least of the heaviest by what each weighs, with its weight
abbrev pub IsHeaviestFound :
    Instance → Domains → ℕ → ℕ → List ℕ → (List Symbol → ℤ) → ℤ → Option HeavyWord → Type 0
IsHeaviestFound P D p len R weighs least None =
    (u : List Symbol) → IsCleanOver P D p len R u → weighs u <ℤ least
IsHeaviestFound P D p len R weighs least (Some h) =
    IsLeastHeaviestBy P D p len R weighs h.word × (h.weight ≡ weighs h.word) × (least ≤ℤ h.weight)

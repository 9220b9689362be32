-- The words that escape a dead or a bound leaf: the least clean word, and the least among the heaviest.
use Rattle.std.specs.Prelude.{◌≡◌, ◌⊎◌, ℕ, ◌<◌, List, [], ◌∷◌, length, ℤ, ◌≤ℤ◌}
use Rattle.rwsp_terms.specs.declared.data.Symbol.{Symbol}
use Rattle.rwsp_terms.specs.declared.data.Weight.{Weight}
use Rattle.rwsp_terms.specs.Instance.{Instance}
use Rattle.refutation_terms.specs.Word.{Domains, Over, Clean, weight}

-- the first word is the second, or has the lower symbol where they first differ
abbrev pub ComesFirst : List Symbol → List Symbol → Type 0
ComesFirst [] v = Unit {0}
ComesFirst (x ∷ u) [] = ⊥
ComesFirst (x ∷ u) (y ∷ v) = (x.number < y.number) ⊎ ((x ≡ y) × ComesFirst u v)

-- a word of this length over the domains from p on that is clean for the rules
pub record IsCleanOver (P : Instance) (D : Domains) (p len : ℕ) (R : List ℕ) (u : List Symbol) : Type 0 where
  pub long : length u ≡ len
  pub over : Over P D p u
  pub clean : Clean P R p u

-- the least of these words
pub record IsLeastClean (P : Instance) (D : Domains) (p len : ℕ) (R : List ℕ) (u : List Symbol) : Type 0 where
  pub clean : IsCleanOver P D p len R u
  pub least : (v : List Symbol) → IsCleanOver P D p len R v → ComesFirst u v

-- one of the heaviest of these words, by what each weighs
pub record IsHeaviestBy (P : Instance) (D : Domains) (p len : ℕ) (R : List ℕ) (weighs : List Symbol → ℤ)
    (u : List Symbol) : Type 0 where
  pub clean : IsCleanOver P D p len R u
  pub heaviest : (v : List Symbol) → IsCleanOver P D p len R v → weighs v ≤ℤ weighs u

-- the least of the heaviest
pub record IsLeastHeaviestBy (P : Instance) (D : Domains) (p len : ℕ) (R : List ℕ) (weighs : List Symbol → ℤ)
    (u : List Symbol) : Type 0 where
  pub heavy : IsHeaviestBy P D p len R weighs u
  pub least : (v : List Symbol) → IsHeaviestBy P D p len R weighs v → ComesFirst u v

abbrev pub IsLeastHeaviest : Instance → Domains → ℕ → ℕ → List ℕ → List Weight → List Symbol → Type 0
IsLeastHeaviest P D p len R y u = IsLeastHeaviestBy P D p len R (weight P y p) u

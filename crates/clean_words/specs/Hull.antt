-- What callers see of a hull.
use Rattle.std.specs.Prelude.{ℕ, List, [], ◌∷◌, ℤ}
use Rattle.clean_words.specs.declared.hull.TheConstants.{SCALE}

-- the vectors of whole numbers in the order in which they came, and beside each its part of the mix
pub record Mix : Type 0 where
  pub vectors : List (List ℤ)
  pub parts : List ℕ

-- the part with which a vector comes: the first is the whole mix
abbrev pub first_part : List ℕ → ℕ
first_part [] = SCALE
first_part (part ∷ parts) = 0

-- Weights of one value on a day.
use Rattle.std.specs.Prelude.{ℕ, ℤ, List, map}
use Rattle.rwsp_terms.specs.declared.data.Weight.{Weight}
use Rattle.rwsp_terms.specs.Instance.{symbol_numbered}

-- what a symbol weighs on a day
abbrev pub weight_of : ℕ → ℕ → ℤ → Weight
weight_of j x v = record { day = j; symbol = symbol_numbered x; value = v }

-- what each of some symbols weighs on a day
abbrev pub weights_of_day : ℕ → List ℕ → ℤ → List Weight
weights_of_day j xs v = map (λ x. weight_of j x v) xs

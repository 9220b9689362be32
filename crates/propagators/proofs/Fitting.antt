-- Weights on days and symbols of the problem.
use Rattle.std.proofs.Common.{ℕ, ◌≤◌, List, ◌∙◌, arith, ℤ}
use Rattle.rwsp_terms.specs.declared.data.Weight.{Weight}
use Rattle.rwsp_terms.specs.Instance.{Instance, shift_count, IsDay}
use Rattle.rwsp_terms.specs.Places.{SetsWeight}
use Rattle.refutation_terms.specs.Ranges.{AreWeightsOf}
use Rattle.clean_words.proofs.Stepping.{zero_outside, of_problem}

-- weights of the problem are still such where one of them is set
pub set_fits : (P : Instance) (old new : List Weight) (j x : ℕ) (v : ℤ) → AreWeightsOf P old → SetsWeight old new j x v → IsDay P j → x ≤ shift_count P → AreWeightsOf P new
set_fits P old new j x v h sets day symbol = of_problem P new sets.weights (λ k z outside. sets.elsewhere k z (λ same. outside ((omega (arith, day, same.0), omega (arith, day, same.0)), omega (arith, symbol, same.1))) ∙ zero_outside P old h k z outside)

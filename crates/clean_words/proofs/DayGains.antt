-- The gains of a day, one symbol after another.
use Rattle.std.proofs.Common.{◌≡◌, ℕ, ◌+◌, ◌<◌, [], ◌∷◌, ◌++◌, length, refl, arith, Bool, Option, ℤ}
use Rattle.rwsp_terms.specs.declared.limits.TheConstants.{GREATEST_REWARD, GREATEST_WEIGHT}
use Rattle.clean_words.specs.Rows.{Row, IsWithin}
use Rattle.clean_words.specs.Trellis.{Trellis}
use Rattle.clean_words.specs.Choices.{gain_there, AreGains}
use Rattle.clean_words.proofs.Pushes.{each_more, light_more, long_more, light_none}

pub gains_none : (T : Trellis) (day : ℕ) (off : Bool) → AreGains T day off 0 []
gains_none T day off = record { long = refl; each = λ x lt. absurd (omega (arith, lt)); light = light_none (GREATEST_WEIGHT + GREATEST_REWARD) }

pub gains_more : (T : Trellis) (day : ℕ) (off : Bool) (count : ℕ) (gains : Row) (v : Option ℤ) → AreGains T day off count gains → v ≡ gain_there T day off count → IsWithin (GREATEST_WEIGHT + GREATEST_REWARD) v → AreGains T day off (count + 1) (gains ++ v ∷ [])
gains_more T day off count gains v h is light = record {
  long = long_more gains v count h.long;
  each = λ x lt. each_more (λ k g. g ≡ gain_there T day off k) gains v count h.long (λ k less. h.each k (within k less)) is x (omega (arith, lt, long_more gains v count h.long));
  light = light_more (GREATEST_WEIGHT + GREATEST_REWARD) gains v h.light light;
}
  where
    within : (k : ℕ) → k < count → k < length gains
    within k less = let long = h.long in omega arith

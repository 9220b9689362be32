-- The row of a day, made state after state.
use Rattle.std.proofs.Common.{◌≡◌, ℕ, ◌+◌, ◌-◌, ◌*◌, ◌<◌, [], ◌∷◌, ◌++◌, length, refl, sym, subst, arith, Option, ℤ}
use Rattle.clean_words.specs.Rows.{Row, gain_at, IsWithin, AreWithin}
use Rattle.clean_words.specs.Trellis.{Trellis, IsGreatest, IsRow}
use Rattle.clean_words.specs.declared.choice.Choice.{Choice}
use Rattle.clean_words.specs.Choices.{IsChosen, weight_of}
use Rattle.clean_words.proofs.Pushes.{each_more, light_more, long_more, light_none}
use Rattle.clean_words.proofs.Steps.{most_gain, IsPlace, offers, greatest_of, light_of}

-- the row of a day, as far as its first states
pub record IsMade (T : Trellis) (day count : ℕ) (row : Row) : Type 0 where
  pub long : length row ≡ count
  pub greatest : (state : ℕ) → state < count → IsGreatest T day state (gain_at row state)
  pub light : AreWithin (most_gain * (T.days - day)) row

pub made_none : (T : Trellis) (day : ℕ) → IsMade T day 0 []
made_none T day = record { long = refl; greatest = λ s lt. absurd (omega (arith, lt)); light = light_none (most_gain * (T.days - day)) }

pub made_more : (T : Trellis) (day state : ℕ) (gains next row : Row) (c : Option Choice) (v : Option ℤ) → IsMade T day state row → IsPlace T day state gains next → IsChosen (offers T state gains next) (length gains) c → v ≡ weight_of c → IsMade T day (state + 1) (row ++ v ∷ [])
made_more T day state gains next row c v h p chosen is = record {
  long = long_more row v state h.long;
  greatest = each_more (λ k g. IsGreatest T day k g) row v state h.long h.greatest (subst (IsGreatest T day state) (sym is) (greatest_of T day state gains next p c chosen));
  light = light_more (most_gain * (T.days - day)) row v h.light (subst (IsWithin (most_gain * (T.days - day))) (sym is) within);
}
  where
    days : most_gain * (T.days - (day + 1)) + most_gain ≡ most_gain * (T.days - day)
    days = let before = p.before in omega arith

    within : IsWithin (most_gain * (T.days - day)) (weight_of c)
    within = subst (λ (n : ℕ). IsWithin n (weight_of c)) days (light_of T day state gains next p (most_gain * (T.days - (day + 1))) p.row.light c chosen)

pub made_all : (T : Trellis) (day count : ℕ) (row : Row) → IsMade T day count row → count ≡ length T.automaton.moves → IsRow T day row
made_all T day count row h all = record { long = (let long = h.long in omega arith); greatest = λ s lt. h.greatest s (omega (arith, lt, all)); light = h.light }

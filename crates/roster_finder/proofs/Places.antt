-- Places in tables that are laid out row by row.
use Rattle.std.proofs.Common.{◌≡◌, ℕ, ◌+◌, ◌*◌, ◌/◌, ◌<◌, ◌≤◌, sym, subst, ◌∙◌}
use Rattle.std.proofs.lemmas.Nat.{mul-add-lt}
use Rattle.std.proofs.Math.Nat.{mul-pos, mul_comm, mul-le-mul_left, div-le_self}

-- a row and a column have a place in the table
pub place_within : (row columns column rows n : ℕ) → n ≡ columns * rows → row < rows → column < columns → row * columns + column < n
place_within row columns column rows n whole within inside = subst (λ (m : ℕ). row * columns + column < m) (sym whole) (mul-add-lt row columns column rows within inside)

pub some_cells : (weeks days : ℕ) → 0 < weeks → 0 < days → 0 < weeks * days
some_cells weeks days some week = mul-pos some week

-- fewer weeks have fewer days
pub days_within : (days weeks most : ℕ) → weeks ≤ most → days * weeks ≤ days * most
days_within days weeks most few = mul-le-mul_left days few

pub quotient_within : (n m : ℕ) → n / m ≤ n
quotient_within n m = div-le_self n m

-- a day of a week is one of all weeks
pub day_of_week : (week days weekday weeks n : ℕ) → n ≡ weeks * days → week < weeks → weekday < days → week * days + weekday < n
day_of_week week days weekday weeks n whole within inside =
    subst (λ (m : ℕ). week * days + weekday < m) (sym (whole ∙ mul_comm weeks days)) (mul-add-lt week days weekday weeks within inside)

-- Tests of symbols and positions.
use Rattle.std.proofs.Common.{◌≡◌, refl, ap, IsTrue, Bool, true, false, ◌&&◌, ◌||◌, not}
use Rattle.std.proofs.Math.Bool.{or-true}

pub both : (a b : Bool) → IsTrue a → IsTrue b → IsTrue (a && b)
both true b h k = k
both false b h k = absurd (cc)

pub left_of : (a b : Bool) → IsTrue (a && b) → IsTrue a
left_of true b h = refl
left_of false b h = absurd (cc)

pub right_of : (a b : Bool) → IsTrue (a && b) → IsTrue b
right_of true b h = h
right_of false b h = absurd (cc)

-- a test that only matters where another passes
pub where_passed : (a b : Bool) → (a ≡ true → IsTrue b) → IsTrue (not a || b)
where_passed true b h = h refl
where_passed false b h = refl

pub passed_there : (a b : Bool) → a ≡ true → IsTrue (not a || b) → IsTrue b
passed_there true b e h = h
passed_there false b e h = absurd (cc)

pub not_passed : (a : Bool) → a ≡ false → IsTrue (not a)
not_passed true e = absurd (cc)
not_passed false e = refl

pub failed_by_not : (a : Bool) → IsTrue (not a) → a ≡ false
failed_by_not true h = absurd (cc)
failed_by_not false h = refl

pub never_both : (b : Bool) → IsTrue b → IsTrue (not b) → ⊥
never_both true h k = cc
never_both false h k = cc

pub passes_by : (a b : Bool) → (b ≡ true → a ≡ true) → (a || not b) ≡ true
passes_by a true h = ap (λ c. c || false) (h refl)
passes_by a false h = or-true a

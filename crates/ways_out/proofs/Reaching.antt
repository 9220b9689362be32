-- How far a search for the nearest number of steps has come.
use Rattle.std.proofs.Common.{◌≡◌, ℕ, zero, suc, ◌+◌, ◌*◌, ◌/◌, ◌^◌, ◌<◌, ◌≤◌, max, Bool, true, false, refl, subst, inl, inr, arith}
use Rattle.std.specs.Prelude.{◌==◌}
use Rattle.std.specs.Int.{IsPowerOfTwo}
use Rattle.std.proofs.Math.Nat.{pow-suc}
use Rattle.std.proofs.Math.Pow.{pow_mono}
use Rattle.std.proofs.lemmas.Nat.{pow_pos}
use Rattle.std.proofs.lemmas.Bool.{cases_lt, eqb-true, eqb-false}
use Rattle.rwsp_terms.specs.Instance.{Instance}
use Rattle.roster_planner.specs.declared.effort.Effort.{Effort}
use Rattle.ways_out.specs.declared.change.Change.{Change}
use Rattle.ways_out.specs.declared.nearest.Reached.{Reached}
use Rattle.ways_out.specs.Loosened.{loosened, most_steps, IsChange, IsStep}
use Rattle.ways_out.specs.Helping.{HasRoster, HasNone, IsLeftOpen, IsUnfound, NoneFoundBelow, IsNearestIf, HelpsWith, HelpsNever, IsNextOpen, IsOpen}
use Rattle.ways_out.specs.Together.{IsOfDemand}
use Rattle.ways_out.specs.Reached.{NoneUpTo, HasReached}
use Rattle.ways_out.proofs.Helping.{none_nearer}

pub reached_shut : (P : Instance) (effort : Effort) (change : Change) (steps : ℕ) → IsChange P change → HasNone (loosened P change steps) → HasReached P effort change (record { shut = steps; tried = steps })
reached_shut P effort change steps known none = record {
  order = omega arith;
  none = λ m step le. none_nearer P change m steps known le none;
  left = λ lt. absurd (omega (arith, lt));
}

pub reached_open : (P : Instance) (effort : Effort) (change : Change) (r : Reached) (steps : ℕ) → HasReached P effort change r → r.tried ≤ steps → IsStep P change steps → IsLeftOpen (loosened P change steps) effort → HasReached P effort change (record { shut = r.shut; tried = steps })
reached_open P effort change r steps h le step left =
    let order = h.order in
    record { order = omega (arith, order, le); none = h.none; left = λ lt. (step, left) }

-- before anything was tried but what gives no roster
pub reached_first : (P : Instance) (effort : Effort) (change : Change) (shut : ℕ) → NoneUpTo P change shut → HasReached P effort change (record { shut = shut; tried = shut })
reached_first P effort change shut none = record { order = omega arith; none = none; left = λ lt. absurd (omega (arith, lt)) }

-- one step, two, four and so on

-- a power of two below the next one above a number is at most that number
power_within : (i n p : ℕ) → IsPowerOfTwo p → p / 2 < max 1 (n + 1) → 2 ^ i < p → 2 ^ i ≤ n
power_within i n p (zero, is) half less =
    let some = pow_pos i in
    let first : p ≡ 1 = is in
    absurd (omega (arith, some, first, less))
power_within i n p (suc k, is) half less =
    let next : 2 ^ suc k ≡ 2 ^ k * 2 = pow-suc 2 k in
    elim (cases_lt k i) [
      | inl above ↦ let further : suc k ≤ i = omega (arith, above) in
          let over : 2 ^ suc k ≤ 2 ^ i = pow_mono further in
          absurd (omega (arith, over, is, less))
      | inr under ↦ let most : 2 ^ i ≤ 2 ^ k = pow_mono under in omega (arith, most, next, is, half)
    ]

pub none_found_first : (P : Instance) (effort : Effort) (change : Change) (shut : ℕ) → shut < most_steps P change → NoneUpTo P change shut → NoneFoundBelow P effort change (shut + 1)
none_found_first P effort change shut further none = λ k less.
    let some = pow_pos k in
    inl (none (2 ^ k) (omega (arith, some), omega (arith, less, further)) (omega (arith, less)))

-- as far as the next power of two
pub none_found_more : (P : Instance) (effort : Effort) (change : Change) (tried steps n : ℕ) → IsPowerOfTwo steps → steps / 2 < max 1 (tried + 1) → NoneFoundBelow P effort change (tried + 1) → n ≤ steps → NoneFoundBelow P effort change n
none_found_more P effort change tried steps n power half before le = λ k less.
    let most = power_within k tried steps power half (omega (arith, le, less)) in
    before k (omega (arith, most))

-- and that itself
pub none_found_next : (P : Instance) (effort : Effort) (change : Change) (tried steps : ℕ) → IsPowerOfTwo steps → steps / 2 < max 1 (tried + 1) → NoneFoundBelow P effort change (tried + 1) → IsUnfound (loosened P change steps) effort → NoneFoundBelow P effort change (steps + 1)
none_found_next P effort change tried steps power half before here = λ k less.
    elim (cases_lt (2 ^ k) steps) [
      | inl below ↦ none_found_more P effort change tried steps steps power half before (omega arith) k below
      | inr past ↦ let same : steps ≡ 2 ^ k = omega (arith, less, past) in subst (λ (n : ℕ). IsUnfound (loosened P change n) effort) same here
    ]

-- the steps behind the last that were tried are the nearest, or these were left open
nearest_if : (P : Instance) (effort : Effort) (change : Change) (r : Reached) (n : ℕ) → HasReached P effort change r → NoneFoundBelow P effort change n → r.tried + 1 ≡ n → (b : Bool) → (r.shut == r.tried) ≡ b → IsNearestIf b P effort change n
nearest_if P effort change r n h fewer next true e =
    let same = eqb-true r.shut r.tried e in
    λ m step less. h.none m step (omega (arith, same, next, less))
nearest_if P effort change r n h fewer next false e =
    let other = eqb-false r.shut r.tried e in
    let order = h.order in
    let lt : r.shut < r.tried = omega (arith, other, order) in
    let left = h.left lt in
    (fewer, r.tried, left.0, next, left.1)

pub helps_with : (P : Instance) (effort : Effort) (change : Change) (r : Reached) (end n : ℕ) → HasReached P effort change r → NoneFoundBelow P effort change end → n ≤ end → r.tried < n → (r.tried + 1 < n → ⊥) → IsStep P change n → HasRoster (loosened P change n) → HelpsWith P effort change n (r.shut == r.tried)
helps_with P effort change r end n h fewer within less last step roster =
    let next : r.tried + 1 ≡ n = omega (arith, less, last) in
    record {
      step = step;
      roster = roster;
      nearest = nearest_if P effort change r n h (λ k low. fewer k (omega (arith, low, within))) next (r.shut == r.tried) refl;
    }

-- where all steps give no roster, none do
pub helps_never : (P : Instance) (change : Change) (most : ℕ) → IsChange P change → most ≡ most_steps P change → HasNone (loosened P change most) → HelpsNever P change
helps_never P change most known all none = λ n step. let few = step.1 in none_nearer P change n most known (omega (arith, few, all)) none

-- one step more than the last that gave none
pub helps_next : (P : Instance) (effort : Effort) (change : Change) (shut n : ℕ) → IsChange P change → n ≡ shut + 1 → n ≤ most_steps P change → HasNone (loosened P change shut) → HasRoster (loosened P change n) → HelpsWith P effort change n true
helps_next P effort change shut n known is few none roster = record {
  step = (omega (arith, is), few);
  roster = roster;
  nearest = λ m step less. none_nearer P change m shut known (omega (arith, is, less)) none;
}

-- with no step nothing is said
pub none_up_to_none : (P : Instance) (change : Change) → NoneUpTo P change 0
none_up_to_none P change = λ m step le. let some = step.0 in absurd (omega (arith, some, le))

-- with up to the last that gave none
pub none_up_to : (P : Instance) (change : Change) (n : ℕ) → IsChange P change → HasNone (loosened P change n) → NoneUpTo P change n
none_up_to P change n known none = λ m step le. none_nearer P change m n known le none

-- the end of the steps that were tried gives a roster, where what they were tried below does
pub end_gives : (P : Instance) (change : Change) (end below : ℕ) → end ≤ below → (end < below → HasRoster (loosened P change end)) → HasRoster (loosened P change below) → HasRoster (loosened P change end)
end_gives P change end below within fewer roster = elim (cases_lt end below) [
  | inl less ↦ fewer less
  | inr past ↦ let same : below ≡ end = omega (arith, within, past) in subst (λ (n : ℕ). HasRoster (loosened P change n)) same roster
]

-- where all steps were left open and no roster was found, so was the change
pub left_open : (P : Instance) (effort : Effort) (change : Change) (shut most end : ℕ) → shut < most → most ≡ most_steps P change → IsLeftOpen (loosened P change most) effort → end ≡ most → NoneFoundBelow P effort change end → (IsOfDemand change → IsNextOpen P effort change shut) → IsOpen P effort change
left_open P effort change shut most end further all left last fewer numbers = record {
  step = (omega (arith, further, all), omega arith);
  utmost = subst (λ (n : ℕ). IsLeftOpen (loosened P change n) effort) all left;
  fewer = λ k less. fewer k (omega (arith, less, all, last));
  numbers = λ demand. (shut, numbers demand);
}

-- Stints that follow the draws, one after the other.
use Rattle.std.proofs.Common.{◌≡◌, ℕ, zero, suc, ◌+◌, ◌-◌, ◌*◌, ◌<◌, ◌≤◌, List, [], ◌∷◌, ◌++◌, length, get_or, drop, refl, ap, sym, subst, ◌∙◌, arith, append_assoc, append-nil}
use Rattle.std.proofs.Common.{◌⊎◌, inl, inr, ⊎_elim}
use Rattle.std.proofs.lemmas.Bool.{cases_lt}
use Rattle.std.proofs.lemmas.List.Sums.{sum_by-cons}
use Rattle.made_problems.specs.Draws.{next_state, state_after}
use Rattle.made_problems.specs.Stints.{stint_days, total_days, drawn_stint, IsUsual, AreStints}
use Rattle.made_problems.specs.declared.stint.Stint.{Stint}

-- stints that are drawn from a state on, where this many days are left
abbrev pub Follow : ℕ → ℕ → List Stint → Type 0
Follow x left [] = left ≡ 0
Follow x left (t ∷ ts) = (t ≡ drawn_stint x left) × (0 < stint_days t) × (stint_days t ≤ left) × Follow (state_after x 3) (left - stint_days t) ts

total-cons : (t : Stint) (ts : List Stint) → total_days (t ∷ ts) ≡ stint_days t + total_days ts
total-cons t ts = sum_by-cons stint_days t ts

pub total_follows : (x left : ℕ) (ts : List Stint) → Follow x left ts → total_days ts ≡ left
total_follows x left [] h = sym h
total_follows x left (t ∷ ts) h =
    let rest = total_follows (state_after x 3) (left - stint_days t) ts h.3 in
    let e = total-cons t ts in
    let le = h.2 in
    omega arith

-- three draws more
pub later_state : (x i : ℕ) → state_after (state_after x 3) (3 * i) ≡ state_after x (3 * suc i)
later_state x zero = refl
later_state x (suc i) =
    let e : 3 * suc i ≡ suc (suc (suc (3 * i))) = omega arith in
    let f : 3 * suc (suc i) ≡ suc (suc (suc (3 * suc i))) = omega arith in
    ap (state_after (state_after x 3)) e
    ∙ ap (λ s. next_state (next_state (next_state s))) (later_state x i)
    ∙ sym (ap (state_after x) f)

follow_each : (x left : ℕ) (ts : List Stint) → Follow x left ts → (i : ℕ) (d : Stint) → i < length ts → get_or ts i d ≡ drawn_stint (state_after x (3 * i)) (total_days (drop i ts))
follow_each x left [] h i d less = absurd (omega (arith, less))
follow_each x left (t ∷ ts) h zero d less = h.0 ∙ ap (drawn_stint x) (sym (total_follows x left (t ∷ ts) h))
follow_each x left (t ∷ ts) h (suc i) d less =
    follow_each (state_after x 3) (left - stint_days t) ts h.3 i d (omega (arith, less))
    ∙ ap (λ s. drawn_stint s (total_days (drop i ts))) (later_state x i)

pub stints_follow : (number days : ℕ) (ts : List Stint) → Follow number days ts → AreStints number days ts
stints_follow number days ts h = record { whole = total_follows number days ts h; each = follow_each number days ts h }

-- what is drawn so far, and may continue from a state where some days are left
abbrev pub FollowsOn : (number days x left : ℕ) → List Stint → Type 0
FollowsOn number days x left ts = (more : List Stint) → Follow x left more → Follow number days (ts ++ more)

pub on_with_one : (number days x left : ℕ) (ts : List Stint) (t : Stint) → FollowsOn number days x left ts → t ≡ drawn_stint x left → 0 < stint_days t → stint_days t ≤ left → FollowsOn number days (state_after x 3) (left - stint_days t) (ts ++ t ∷ [])
on_with_one number days x left ts t on drawn some le = λ more h. subst (Follow number days) (sym (append_assoc ts (t ∷ []) more)) (on (t ∷ more) (drawn, some, le, h))

-- the last one takes all days that are left, and no draw comes behind it
pub on_with_last : (number days x y left : ℕ) (ts : List Stint) (t : Stint) → FollowsOn number days x left ts → t ≡ drawn_stint x left → 0 < stint_days t → stint_days t ≡ left → FollowsOn number days y 0 (ts ++ t ∷ [])
on_with_last number days x y left ts t on drawn some all [] h =
    subst (Follow number days) (sym (append-nil (ts ++ t ∷ []))) (on (t ∷ []) (drawn, some, omega arith, omega arith))
on_with_last number days x y left ts t on drawn some all (u ∷ us) h = let a = h.1 in let b = h.2 in absurd (omega arith)

pub on_at_end : (number days x : ℕ) (ts : List Stint) → FollowsOn number days x 0 ts → AreStints number days ts
on_at_end number days x ts on = stints_follow number days ts (subst (Follow number days) (append-nil ts) (on [] refl))

-- one stint more, whichever it is, where 6 days or more are left
pub on_with_next : (number days x y left : ℕ) (ts : List Stint) (t : Stint) → FollowsOn number days x left ts → t ≡ drawn_stint x left → IsUsual t → (left ≤ 11 → stint_days t ≡ left) → (11 < left → (6 + stint_days t ≤ left) × (y ≡ state_after x 3)) → FollowsOn number days y (left - stint_days t) (ts ++ t ∷ []) × ((left - stint_days t ≡ 0) ⊎ (6 ≤ left - stint_days t))
on_with_next number days x y left ts t on drawn usual last more =
    let some : 0 < stint_days t = let w = usual.0 in omega arith in
    ⊎_elim
    (λ (long : 11 < left).
    let h = more long in
    let room : 6 + stint_days t ≤ left = h.0 in
    (subst (λ s. FollowsOn number days s (left - stint_days t) (ts ++ t ∷ [])) (sym h.1) (on_with_one number days x left ts t on drawn some (omega arith)), inr (omega arith)))
    (λ (short : left ≤ 11).
    let all : stint_days t ≡ left = last short in
    let none : left - stint_days t ≡ 0 = omega arith in
    (subst (λ k. FollowsOn number days y k (ts ++ t ∷ [])) (sym none) (on_with_last number days x y left ts t on drawn some all), inl none))
    (cases_lt 11 left)

-- Drawn stints are usual.
use Rattle.std.proofs.Common.{◌≡◌, ℕ, suc, ◌+◌, ◌-◌, ◌*◌, ◌<◌, ◌≤◌, ◌⊎◌, List, [], ◌∷◌, length, get_or, drop, min, max, Bool, true, false, refl, ap, sym, subst, ◌∙◌, inl, inr, ⊎_elim, arith}
use Rattle.std.specs.Prelude.{All, nat_le, if◌then◌else◌}
use Rattle.std.specs.List.{AllByRecursion}
use Rattle.std.proofs.lemmas.Bool.{leb-true, leb-false}
use Rattle.std.proofs.lemmas.Nat.{mod_below}
use Rattle.std.proofs.lemmas.List.Sums.{sum_by-cons}
use Rattle.rwsp_terms.proofs.Elements.{all_from}
use Rattle.made_problems.specs.Draws.{next_state, state_after, drawn, drawn_between}
use Rattle.made_problems.specs.Stints.{stint_days, total_days, drawn_off, stint_of_days, drawn_stint, IsUsual, AreStints}
use Rattle.made_problems.specs.declared.stint.Stint.{Stint}
use Rattle.made_problems.proofs.Following.{Follow, later_state}

between_within : (x low high : ℕ) → low ≤ high → (low ≤ drawn_between x low high) × (drawn_between x low high ≤ high)
between_within x low high le = let less = mod_below (drawn x) (high + 1 - low) (omega arith) in (omega arith, omega arith)

off_some : (x days : ℕ) → 2 ≤ drawn_off x days
off_some x days = omega arith

usual_of_days : (x days : ℕ) → 6 ≤ days → days ≤ 11 → IsUsual (stint_of_days x days) × (stint_days (stint_of_days x days) ≡ days)
usual_of_days x days some few =
    let off = between_within x (max 2 (days - 7)) (min 4 (days - 4)) (omega arith) in
    let low = off.0 in
    let high = off.1 in
    ((omega arith, omega arith, omega arith, omega arith), omega arith)

-- what a drawn stint leaves
abbrev pub Leaves : ℕ → Stint → Type 0
Leaves left t = IsUsual t × ((stint_days t ≡ left) ⊎ (6 + stint_days t ≤ left))

pub drawn_leaves : (x left : ℕ) → 6 ≤ left → Leaves left (drawn_stint x left)
drawn_leaves x left some =
    elim (nat_le left 11) as (λ (b : Bool). nat_le left 11 ≡ b → Leaves left (if b then stint_of_days x left else stint_of_days (next_state x) (drawn_between x 6 (min 11 (left - 6))))) [
      | true ↦ λ t. let u = usual_of_days x left some (leb-true left 11 t) in (u.0, inl u.1)
      | false ↦ λ f.
          let long = leb-false left 11 f in
          let days = between_within x 6 (min 11 (left - 6)) (omega arith) in
          let low = days.0 in
          let high = days.1 in
          let u = usual_of_days (next_state x) (drawn_between x 6 (min 11 (left - 6))) low (omega arith) in
          let same = u.1 in
          (u.0, inr (omega arith))
    ] refl

drawn_some : (x left : ℕ) → 0 < stint_days (drawn_stint x left)
drawn_some x left =
    elim (nat_le left 11) as (λ (b : Bool). 0 < stint_days (if b then stint_of_days x left else stint_of_days (next_state x) (drawn_between x 6 (min 11 (left - 6))))) [
      | true ↦ let some = off_some x left in omega arith
      | false ↦ let some = off_some (next_state x) (drawn_between x 6 (min 11 (left - 6))) in omega arith
    ]

pub follow_from : (x left : ℕ) (ts : List Stint) → total_days ts ≡ left → ((i : ℕ) (d : Stint) → i < length ts → get_or ts i d ≡ drawn_stint (state_after x (3 * i)) (total_days (drop i ts))) → Follow x left ts
follow_from x left [] whole each = sym whole
follow_from x left (t ∷ ts) whole each =
    let total = sum_by-cons stint_days t ts in
    let here : t ≡ drawn_stint x left = each 0 t (omega arith) ∙ ap (drawn_stint x) whole in
    let some : 0 < stint_days t = subst (λ u. 0 < stint_days u) (sym here) (drawn_some x left) in
    (here, some, omega arith, follow_from (state_after x 3) (left - stint_days t) ts (omega arith) (λ i d less. each (suc i) d (omega (arith, less)) ∙ ap (λ s. drawn_stint s (total_days (drop i ts))) (sym (later_state x i))))

usual_along : (x left : ℕ) (ts : List Stint) → (left ≡ 0) ⊎ (6 ≤ left) → Follow x left ts → AllByRecursion IsUsual ts
usual_along x left [] fits h = tt
usual_along x left (t ∷ ts) fits h =
    let some = h.1 in
    let within = h.2 in
    let six : 6 ≤ left = ⊎_elim (λ (none : left ≡ 0). absurd (omega arith)) (λ (l : 6 ≤ left). l) fits in
    let leaves = subst (Leaves left) (sym h.0) (drawn_leaves x left six) in
    (leaves.0, usual_along (state_after x 3) (left - stint_days t) ts (⊎_elim (λ (all : stint_days t ≡ left). inl (omega arith)) (λ (room : 6 + stint_days t ≤ left). inr (omega arith)) leaves.1) h.3)

pub stints_usual : (number days : ℕ) (ts : List Stint) → 6 ≤ days → AreStints number days ts → AllByRecursion IsUsual ts
stints_usual number days ts some are = usual_along number days ts (inr some) (follow_from number days ts are.whole are.each)

pub all_usual : (number days : ℕ) (ts : List Stint) → 6 ≤ days → AreStints number days ts → All IsUsual ts
all_usual number days ts some are = all_from IsUsual ts (stints_usual number days ts some are)

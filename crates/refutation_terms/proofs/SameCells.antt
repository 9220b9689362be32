-- What is said of cells, counts and words under domains rests on their positions alone.
use Rattle.std.proofs.Common.{◌≡◌, ℕ, ◌+◌, ◌-◌, ◌*◌, ◌%◌, ◌<◌, List, [], ◌∷◌, ap, sym, ◌∙◌, subst, arith, Bool, IsTrue, ◌&&◌, ◌||◌, ◌==◌, not}
use Rattle.std.specs.Prelude.{ℤ}
use Rattle.std.specs.List.{range_with_len, list_all}
use Rattle.std.proofs.Math.Path.{fun_ext}
use Rattle.rwsp_terms.specs.declared.data.Symbol.{Symbol}
use Rattle.rwsp_terms.specs.Instance.{Instance, cells, shift_count, IsDay}
use Rattle.rwsp_terms.proofs.Counting.{count_same}
use Rattle.refutation_terms.specs.Word.{Domains, AreSame, Over}
use Rattle.refutation_terms.specs.FewLeaf.{may_be_free, HasTooFewFree}
use Rattle.refutation_terms.specs.DayLeaf.{is_only, fixed, possible}
use Rattle.refutation_terms.specs.Escape.{IsCleanOver, IsHeaviestBy, IsLeastHeaviestBy}
use Rattle.refutation_terms.specs.Tree.{is_idle}
use Rattle.refutation_terms.proofs.Counts.{in_column}

pub turned_round : (P : Instance) (D E : Domains) → AreSame P D E → AreSame P E D
turned_round P D E same p x inside = sym (same p x inside)

-- by the domain of one position
pub same_only : (P : Instance) (D E : Domains) (p x : ℕ) → p < cells P → AreSame P D E → is_only P D p x ≡ is_only P E p x
same_only P D E p x inside same =
    let test : (ℕ → Bool) → Bool = λ f. f x && list_all (λ z. (z == x) || not (f z)) (range_with_len 0 (shift_count P + 1)) in
    let here : D p ≡ E p = fun_ext (λ z. same p z inside) in
    ap test here

pub same_idle : (P : Instance) (D E : Domains) (p x : ℕ) → p < cells P → AreSame P D E → is_idle P D p x ≡ is_idle P E p x
same_idle P D E p x inside same =
    ap (λ b. not b || is_only P D p x) (same p x inside) ∙ ap (λ b. not (E p x) || b) (same_only P D E p x inside same)

-- by counts over the weeks
pub same_fixed : (P : Instance) (D E : Domains) (j x : ℕ) → IsDay P j → AreSame P D E → fixed P D j x ≡ fixed P E j x
same_fixed P D E j x day same =
    count_same (λ i. is_only P D (i * P.days + (j - 1)) x) (λ i. is_only P E (i * P.days + (j - 1)) x) 0 P.weeks
    (λ i le less. same_only P D E (i * P.days + (j - 1)) x (in_column P i j (omega (arith, less)) day) same)

pub same_possible : (P : Instance) (D E : Domains) (j x : ℕ) → IsDay P j → AreSame P D E → possible P D j x ≡ possible P E j x
same_possible P D E j x day same =
    count_same (λ i. D (i * P.days + (j - 1)) x) (λ i. E (i * P.days + (j - 1)) x) 0 P.weeks
    (λ i le less. same (i * P.days + (j - 1)) x (in_column P i j (omega (arith, less)) day))

-- by words over them
pub same_over : (P : Instance) (D E : Domains) (p : ℕ) (u : List Symbol) → 0 < cells P → AreSame P D E → Over P D p u → Over P E p u
same_over P D E p [] some same over = tt
same_over P D E p (x ∷ u) some same over =
    let inside : p % cells P < cells P = omega (arith, some) in
    (subst IsTrue (same (p % cells P) x.number inside) over.0, same_over P D E (p + 1) u some same over.1)

pub same_clean : (P : Instance) (D E : Domains) (p len : ℕ) (R : List ℕ) (u : List Symbol) → 0 < cells P → AreSame P D E → IsCleanOver P D p len R u → IsCleanOver P E p len R u
same_clean P D E p len R u some same h = record { long = h.long; over = same_over P D E p u some same h.over; clean = h.clean }

same_heaviest : (P : Instance) (D E : Domains) (p len : ℕ) (R : List ℕ) (weighs : List Symbol → ℤ) (u : List Symbol) → 0 < cells P → AreSame P D E → IsHeaviestBy P D p len R weighs u → IsHeaviestBy P E p len R weighs u
same_heaviest P D E p len R weighs u some same h = record {
  clean = same_clean P D E p len R u some same h.clean;
  heaviest = λ v c. h.heaviest v (same_clean P E D p len R v some (turned_round P D E same) c);
}

pub same_least : (P : Instance) (D E : Domains) (p len : ℕ) (R : List ℕ) (weighs : List Symbol → ℤ) (u : List Symbol) → 0 < cells P → AreSame P D E → IsLeastHeaviestBy P D p len R weighs u → IsLeastHeaviestBy P E p len R weighs u
same_least P D E p len R weighs u some same h = record {
  heavy = same_heaviest P D E p len R weighs u some same h.heavy;
  least = λ v c. h.least v (same_heaviest P E D p len R weighs v some (turned_round P D E same) c);
}

-- as many weeks can have their weekend off
in_week : (P : Instance) (i d : ℕ) → P.days ≡ 7 → i < P.weeks → d < 7 → i * 7 + d < cells P
in_week P i d days less small =
    let within : i * P.days + (d + 1 - 1) < cells P = in_column P i (d + 1) (omega (arith, less)) (omega arith, omega (arith, days, small)) in
    subst (λ n. i * n + d < cells P) days (omega (arith, within))

same_may_be_free : (P : Instance) (D E : Domains) (i : ℕ) → P.days ≡ 7 → i < P.weeks → AreSame P D E → may_be_free D i ≡ may_be_free E i
same_may_be_free P D E i days less same =
    ap (λ b. b && D (i * 7 + 6) 0) (same (i * 7 + 5) 0 (in_week P i 5 days less (omega arith)))
    ∙ ap (λ b. E (i * 7 + 5) 0 && b) (same (i * 7 + 6) 0 (in_week P i 6 days less (omega arith)))

pub same_few : (P : Instance) (goal : ℕ) (D E : Domains) → P.days ≡ 7 → AreSame P D E → HasTooFewFree P goal D → HasTooFewFree P goal E
same_few P goal D E days same h =
    subst (λ n. n < goal) (count_same (may_be_free D) (may_be_free E) 0 P.weeks (λ i le less. same_may_be_free P D E i days (omega (arith, less)) same)) h

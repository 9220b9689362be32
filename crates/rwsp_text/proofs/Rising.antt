-- Numbers that ascend, from left to right.
use Rattle.std.proofs.Common.{◌≡◌, ℕ, zero, suc, ◌+◌, ◌<◌, ◌≤◌, List, [], ◌∷◌, length, get_or, arith, subst}
use Rattle.std.specs.List.Sorted.{IsStrictlyIncreasing}

-- each is at least n and above the one in front of it
abbrev pub RisesFrom : ℕ → List ℕ → Type 0
RisesFrom n [] = Unit {0}
RisesFrom n (k ∷ ks) = (n ≤ k) × RisesFrom (k + 1) ks

pub increasing : (n : ℕ) (ks : List ℕ) → RisesFrom n ks → IsStrictlyIncreasing ks
increasing n [] h i less = absurd (omega (arith, less))
increasing n (k ∷ []) h i less = absurd (omega (arith, less))
increasing n (k ∷ q ∷ ks) h zero less = omega (arith, h.1.0)
increasing n (k ∷ q ∷ ks) h (suc i) less =
    let e : suc (i + 1) ≡ suc i + 1 = omega arith in
    subst (λ j. get_or (q ∷ ks) i 0 < get_or (k ∷ q ∷ ks) j 0) e (increasing (k + 1) (q ∷ ks) h.1 i (omega (arith, less)))

increasing_tail : (k : ℕ) (ks : List ℕ) → IsStrictlyIncreasing (k ∷ ks) → IsStrictlyIncreasing ks
increasing_tail k ks h i less =
    let e : suc i + 1 ≡ suc (i + 1) = omega arith in
    subst (λ j. get_or ks i 0 < get_or (k ∷ ks) j 0) e (h (suc i) (omega (arith, less)))

pub rises : (n : ℕ) (ks : List ℕ) → (0 < length ks → n ≤ get_or ks 0 0) → IsStrictlyIncreasing ks → RisesFrom n ks
rises n [] first h = tt
rises n (k ∷ ks) first h =
    (first (omega arith), rises (k + 1) ks (λ some. let less : k < get_or ks 0 0 = h 0 (omega (arith, some)) in omega (arith, less)) (increasing_tail k ks h))

pub rises_from_zero : (ks : List ℕ) → IsStrictlyIncreasing ks → RisesFrom 0 ks
rises_from_zero ks h = rises 0 ks (λ some. omega arith) h

-- The first greatest of the choices that numbers offer.
use Rattle.std.proofs.Common.{◌≡◌, ◌⊎◌, ℕ, ◌+◌, ◌<◌, ◌≤◌, refl, ap, ◌∙◌, arith, inl, inr, Bool, true, false, Option, Some, None, ℤ, if◌then◌else◌}
use Rattle.std.specs.Prelude.{◌<ℤ◌, ◌≤ℤ◌, int_lt}
use Rattle.std.proofs.Math.Nat.{eq-or-lt_of_le}
use Rattle.std.proofs.lemmas.Int.{ints}
use Rattle.clean_words.specs.declared.choice.Choice.{Choice}
use Rattle.clean_words.specs.Choices.{IsChosen, IsFirstGreatest, preferred}

-- one of the first numbers, or the next
below_next : (x n : ℕ) → x < n + 1 → (x ≡ n) ⊎ (x < n)
below_next x n lt = eq-or-lt_of_le {n = x} {m = n} (omega arith)

-- the next number offers nothing
kept : (offered : ℕ → Option Choice) (n : ℕ) (best : Choice) → IsFirstGreatest offered n best → offered n ≡ None → IsFirstGreatest offered (n + 1) best
kept offered n best h none = record { number = h.number; within = omega (arith, h.within); is = h.is; others = λ x c lt e. others x c (below_next x n lt) e }
  where
    others : (x : ℕ) (c : Choice) → (x ≡ n) ⊎ (x < n) → offered x ≡ Some c → (c.weight <ℤ best.weight) ⊎ ((c.weight ≡ best.weight) × (h.number ≤ x))
    others x c (inl last) e = let here : offered x ≡ offered n = ap offered last in absurd (cc)
    others x c (inr lt) e = h.others x c lt e

weights_same : (offered : ℕ → Option Choice) (n x : ℕ) (a c : Choice) → x ≡ n → offered n ≡ Some a → offered x ≡ Some c → c.weight ≡ a.weight
weights_same offered n x a c last is e =
    let here : offered x ≡ offered n = ap offered last in
    let same : c ≡ a = cc in ap (λ (d : Choice). d.weight) same

-- the next number offers no more
no_more : (offered : ℕ → Option Choice) (n : ℕ) (best c : Choice) → IsFirstGreatest offered n best → offered n ≡ Some c → c.weight ≤ℤ best.weight → IsFirstGreatest offered (n + 1) best
no_more offered n best c h is le = record { number = h.number; within = omega (arith, h.within); is = h.is; others = λ x d lt e. others x d (below_next x n lt) e }
  where
    split : (y z : ℤ) → y ≤ℤ z → (y <ℤ z) ⊎ (y ≡ z)
    split y z h = grind (arith, ints)

    others : (x : ℕ) (d : Choice) → (x ≡ n) ⊎ (x < n) → offered x ≡ Some d → (d.weight <ℤ best.weight) ⊎ ((d.weight ≡ best.weight) × (h.number ≤ x))
    others x d (inl last) e =
        let same : d.weight ≡ c.weight = weights_same offered n x c d last is e in
        elim (split c.weight best.weight le) [
          | inl lt ↦ inl (omega (arith, ints, same, lt))
          | inr eq ↦ inr (same ∙ eq, omega (arith, last, h.within))
        ]
    others x d (inr lt) e = h.others x d lt e

-- the next number offers more
more : (offered : ℕ → Option Choice) (n : ℕ) (best c : Choice) → IsFirstGreatest offered n best → offered n ≡ Some c → best.weight <ℤ c.weight → IsFirstGreatest offered (n + 1) c
more offered n best c h is gt = record { number = n; within = omega arith; is = is; others = λ x d lt e. others x d (below_next x n lt) e }
  where
    others : (x : ℕ) (d : Choice) → (x ≡ n) ⊎ (x < n) → offered x ≡ Some d → (d.weight <ℤ c.weight) ⊎ ((d.weight ≡ c.weight) × (n ≤ x))
    others x d (inl last) e = inr (weights_same offered n x c d last is e, omega (arith, last))
    others x d (inr lt) e =
        elim (h.others x d lt e) [ inl less ↦ inl (omega (arith, ints, less, gt)) | inr same ↦ inl (omega (arith, ints, same.0, gt)) ]

compared : (offered : ℕ → Option Choice) (n : ℕ) (best c : Choice) → IsFirstGreatest offered n best → offered n ≡ Some c → (b : Bool) → int_lt best.weight c.weight ≡ b → IsChosen offered (n + 1) (if b then Some c else Some best)
compared offered n best c h is true test = more offered n best c h is (grind (arith, ints))
compared offered n best c h is false test = no_more offered n best c h is (grind (arith, ints))

pub chosen_none : (offered : ℕ → Option Choice) → IsChosen offered 0 None
chosen_none offered = λ x lt. absurd (omega (arith, lt))

pub chosen_more : (offered : ℕ → Option Choice) (n : ℕ) (best next : Option Choice) → IsChosen offered n best → offered n ≡ next → IsChosen offered (n + 1) (preferred best next)
chosen_more offered n None None h is = λ x lt. elim (below_next x n lt) [ inl last ↦ ap offered last ∙ is | inr less ↦ h x less ]
chosen_more offered n None (Some c) h is = record { number = n; within = omega arith; is = is; others = λ x d lt e. others x d (below_next x n lt) e }
  where
    others : (x : ℕ) (d : Choice) → (x ≡ n) ⊎ (x < n) → offered x ≡ Some d → (d.weight <ℤ c.weight) ⊎ ((d.weight ≡ c.weight) × (n ≤ x))
    others x d (inl last) e = inr (weights_same offered n x c d last is e, omega (arith, last))
    others x d (inr lt) e = let none : offered x ≡ None = h x lt in absurd (cc)
chosen_more offered n (Some best) None h is = kept offered n best h is
chosen_more offered n (Some best) (Some c) h is = compared offered n best c h is (int_lt best.weight c.weight) refl

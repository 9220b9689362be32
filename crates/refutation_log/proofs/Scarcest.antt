-- The scarcest shift up to the next number.
use Rattle.std.proofs.Common.{◌≡◌, ◌⊎◌, ℕ, ◌+◌, ◌<◌, ◌≤◌, refl, sym, ap, subst, arith, inl, inr, Option, Some, None, ℤ}
use Rattle.std.specs.Prelude.{◌<ℤ◌, ◌≤ℤ◌, IfSome}
use Rattle.std.proofs.Math.Nat.{eq-or-lt_of_le}
use Rattle.std.proofs.lemmas.Int.{ints, by_lt_z}
use Rattle.rwsp_terms.specs.declared.data.Symbol.{Symbol}
use Rattle.rwsp_terms.specs.Instance.{Instance, least, symbol_numbered}
use Rattle.refutation_terms.specs.declared.lines.Turn.{Turn}
use Rattle.refutation_terms.specs.Sharp.{IsDemanded, IsNoScarcer}
use Rattle.refutation_log.specs.Turns.{IsUpTo, IsScarcestUpTo}

-- the turn to the next number
abbrev pub turn_next : ℕ → ℕ → Turn
turn_next day n = record { day = day; x = symbol_numbered (n + 1) }

-- it is demanded, by fewer weeks than what is found
abbrev pub NextIsScarcer : Instance → ℕ → ℕ → Option Turn → Type 0
NextIsScarcer P day n best =
    IsDemanded P day (symbol_numbered (n + 1))
    × IfSome best (λ t. least P (n + 1) day <ℤ least P t.x.number t.day)

-- up to the number before, or it is the next
before_or_next : (day n j : ℕ) (x : Symbol) → IsUpTo day (n + 1) j x → IsUpTo day n j x ⊎ ((j ≡ day) × (x ≡ symbol_numbered (n + 1)))
before_or_next day n j x (inl lt) = inl (inl lt)
before_or_next day n j x (inr h) =
    elim (eq-or-lt_of_le {n = x.number} {m = n + 1} h.1) [
      | inl same ↦ inr (h.0, ap symbol_numbered same)
      | inr less ↦ inl (inr (h.0, omega (arith, less)))
    ]

still_up_to : (day n j : ℕ) (x : Symbol) → IsUpTo day n j x → IsUpTo day (n + 1) j x
still_up_to day n j x (inl lt) = inl lt
still_up_to day n j x (inr h) = inr (h.0, omega (arith, h.1))

-- what holds of the next number holds of a symbol that is it
of_next : (Q : ℕ → Symbol → Type 0) (day n j : ℕ) (x : Symbol) → (j ≡ day) × (x ≡ symbol_numbered (n + 1)) → Q day (symbol_numbered (n + 1)) → Q j x
of_next Q day n j x is q = subst (λ d. Q d x) (sym is.0) (subst (Q day) (sym is.1) q)

to_next : (Q : ℕ → Symbol → Type 0) (day n j : ℕ) (x : Symbol) → (j ≡ day) × (x ≡ symbol_numbered (n + 1)) → Q j x → Q day (symbol_numbered (n + 1))
to_next Q day n j x is q = subst (Q day) is.1 (subst (λ d. Q d x) is.0 q)

-- one that comes first and isn't demanded by more weeks is as scarce
first_is_scarcer : (P : Instance) (day n : ℕ) (t : Turn) → IsUpTo day n t.day t.x → (least P (n + 1) day <ℤ least P t.x.number t.day → ⊥) → IsNoScarcer P t day (symbol_numbered (n + 1))
first_is_scarcer P day n t up no_less =
    by_lt_z (least P t.x.number t.day) (least P (n + 1) day) (λ less. inl less) (λ no_more. inr (same (least P t.x.number t.day) (least P (n + 1) day) no_more no_less, first up))
  where
    same : (a b : ℤ) → b ≤ℤ a → (b <ℤ a → ⊥) → a ≡ b
    same a b le never = by_lt_z b a (λ less. absurd (never less)) (λ ge. omega (arith, ints))

    first : IsUpTo day n t.day t.x → (t.day < day) ⊎ ((t.day ≡ day) × (t.x.number ≤ n + 1))
    first (inl lt) = inl lt
    first (inr h) = inr (h.0, omega (arith, h.1))

pub next_left : (P : Instance) (day n : ℕ) (best : Option Turn) → IsScarcestUpTo P day n best → (NextIsScarcer P day n best → ⊥) → IsScarcestUpTo P day (n + 1) best
next_left P day n None h never = λ j x up d.
    elim (before_or_next day n j x up) [
      | inl before ↦ h j x before d
      | inr is ↦ never (to_next (IsDemanded P) day n j x is d, tt)
    ]
next_left P day n (Some t) h never = (
  still_up_to day n t.day t.x h.0,
  h.1,
  λ j x up d.
      elim (before_or_next day n j x up) [
        | inl before ↦ h.2 j x before d
        | inr is ↦ of_next (IsNoScarcer P t) day n j x is
            (first_is_scarcer P day n t h.0 (λ less. never (to_next (IsDemanded P) day n j x is d, less)))
      ],
)

pub next_taken : (P : Instance) (day n : ℕ) (best : Option Turn) → IsScarcestUpTo P day n best → NextIsScarcer P day n best → IsScarcestUpTo P day (n + 1) (Some (turn_next day n))
next_taken P day n best h is = (inr (refl, omega arith), is.0, λ j x up d. elim (before_or_next day n j x up) [ inl before ↦ other best h is.1 j x before d | inr here ↦ of_next (IsNoScarcer P (turn_next day n)) day n j x here (inr (refl, inr (refl, omega arith))) ])
  where
    below : (a b c : ℤ) → a <ℤ b → (b <ℤ c) ⊎ (b ≡ c) → a <ℤ c
    below a b c less (inl h) = omega (arith, ints, less, h)
    below a b c less (inr h) = omega (arith, ints, less, h)

    weaker : (t : Turn) (j : ℕ) (x : Symbol) → IsNoScarcer P t j x → (least P t.x.number t.day <ℤ least P x.number j) ⊎ (least P t.x.number t.day ≡ least P x.number j)
    weaker t j x (inl less) = inl less
    weaker t j x (inr h) = inr h.0

    other : (best : Option Turn) → IsScarcestUpTo P day n best → IfSome best (λ t. least P (n + 1) day <ℤ least P t.x.number t.day) → (j : ℕ) (x : Symbol) → IsUpTo day n j x → IsDemanded P j x → IsNoScarcer P (turn_next day n) j x
    other None h less j x up d = absurd (h j x up d)
    other (Some t) h less j x up d = inl (below (least P (n + 1) day) (least P t.x.number t.day) (least P x.number j) less (weaker t j x (h.2 j x up d)))

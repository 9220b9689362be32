-- What a word ends with, and what it ends with when it has one symbol more.
use Rattle.std.proofs.Common.{◌≡◌, ◌⊎◌, ℕ, zero, suc, ◌+◌, List, [], ◌∷◌, ◌++◌, length, Bool, true, false, refl, ap, sym, ◌∙◌, inl, inr, subst, append_assoc, length-append, append-nil, arith}
use Rattle.std.specs.Prelude.{◌↔◌, ◌&&◌}
use Rattle.std.specs.List.{AllByRecursion}
use Rattle.rwsp_terms.specs.declared.data.Symbol.{Symbol}

-- lists with one more at their ends have equal fronts and equal ends
pub front_same : (w v : List Symbol) (x y : Symbol) → w ++ x ∷ [] ≡ v ++ y ∷ [] → w ≡ v
front_same [] [] x y h = refl
front_same [] (v ∷ []) x y h = absurd (cc)
front_same [] (v ∷ u ∷ vs) x y h = absurd (cc)
front_same (w ∷ []) [] x y h = absurd (cc)
front_same (w ∷ u ∷ ws) [] x y h = absurd (cc)
front_same (w ∷ ws) (v ∷ vs) x y h =
    let head : w ≡ v = cc in
    let rest : ws ++ x ∷ [] ≡ vs ++ y ∷ [] = cc in
    let tail : ws ≡ vs = front_same ws vs x y rest in
    cc

last_same : (w v : List Symbol) (x y : Symbol) → w ++ x ∷ [] ≡ v ++ y ∷ [] → x ≡ y
last_same [] [] x y h = cc
last_same [] (v ∷ []) x y h = absurd (cc)
last_same [] (v ∷ u ∷ vs) x y h = absurd (cc)
last_same (w ∷ []) [] x y h = absurd (cc)
last_same (w ∷ u ∷ ws) [] x y h = absurd (cc)
last_same (w ∷ ws) (v ∷ vs) x y h =
    let rest : ws ++ x ∷ [] ≡ vs ++ y ∷ [] = cc in
    last_same ws vs x y rest

-- a list is empty or has a last
pub ends : (c : List Symbol) → (c ≡ []) ⊎ ((d : List Symbol) × (y : Symbol) × (c ≡ d ++ y ∷ []))
ends [] = inl refl
ends (x ∷ xs) = elim (ends xs) [ inl e ↦ inr ([], x, ap (λ zs. x ∷ zs) e) | inr h ↦ inr (x ∷ h.0, h.1, ap (λ zs. x ∷ zs) h.2) ]

-- kinds of words, which may ask for the position where they begin

abbrev pub Kind : Type 1
Kind = ℕ → List Symbol → Type 0

-- the empty word, at such a position
abbrev pub At : (ℕ → Type 0) → Kind
At Q p u = (u ≡ []) × Q p

-- a word of a kind with one symbol more
abbrev pub Then : Kind → (Symbol → Type 0) → Kind
Then K Q p u = (v : List Symbol) × (y : Symbol) × (u ≡ v ++ y ∷ []) × K p v × Q y

-- and with so many
abbrev pub Thens : Kind → (Symbol → Type 0) → ℕ → Kind
Thens K Q zero = K
Thens K Q (suc n) = Then (Thens K Q n) Q

-- the word from a position on ends in a part of the kind
abbrev pub EndsWith : Kind → Kind
EndsWith K p w = (before : List Symbol) × (part : List Symbol) × (w ≡ before ++ part) × K (p + length before) part

pub ends_as : (K L : Kind) → ((p : ℕ) (u : List Symbol) → K p u ↔ L p u) → (p : ℕ) (w : List Symbol) → EndsWith K p w ↔ EndsWith L p w
ends_as K L same p w = (
  λ h. (h.0, h.1, h.2, (same (p + length h.0) h.1).0 h.3),
  λ h. (h.0, h.1, h.2, (same (p + length h.0) h.1).1 h.3),
)

pub ends_at : (Q : ℕ → Type 0) (p : ℕ) (w : List Symbol) → EndsWith (At Q) p w ↔ Q (p + length w)
ends_at Q p w = (
  λ h. subst (λ (v : List Symbol). Q (p + length v)) (sym (h.2 ∙ ap (λ v. h.0 ++ v) h.3.0 ∙ append-nil h.0)) h.3.1,
  λ q. (w, [], sym (append-nil w), (refl, q)),
)

-- the empty word doesn't end in a word with a symbol
pub ends_none : (K : Kind) (Q : Symbol → Type 0) (p : ℕ) → EndsWith (Then K Q) p [] → ⊥
ends_none K Q p h =
    let long : length h.1 ≡ length h.3.0 + 1 = ap length h.3.2 ∙ length-append h.3.0 (h.3.1 ∷ []) in
    omega (arith, ap length h.2, length-append h.0 h.1, long)

-- a word with one symbol more ends in a part with one symbol more exactly where it did so before, and the symbol fits
pub ends_then : (K : Kind) (Q : Symbol → Type 0) (p : ℕ) (w : List Symbol) (x : Symbol) → EndsWith (Then K Q) p (w ++ x ∷ []) ↔ (EndsWith K p w × Q x)
ends_then K Q p w x = (
  λ h.
      let k = h.3 in
      let whole : w ++ x ∷ [] ≡ (h.0 ++ k.0) ++ k.1 ∷ [] = h.2 ∙ ap (λ v. h.0 ++ v) k.2 ∙ sym (append_assoc h.0 k.0 (k.1 ∷ [])) in
      ((h.0, k.0, front_same w (h.0 ++ k.0) x k.1 whole, k.3), subst Q (sym (last_same w (h.0 ++ k.0) x k.1 whole)) k.4),
  λ h. (h.0.0, h.0.1 ++ x ∷ [], ap (λ v. v ++ x ∷ []) h.0.2 ∙ append_assoc h.0.0 h.0.1 (x ∷ []), (h.0.1, x, refl, h.0.3, h.1)),
)

-- what holds of each symbol

each_front : (Q : Symbol → Type 0) (xs ys : List Symbol) → AllByRecursion Q (xs ++ ys) → AllByRecursion Q xs
each_front Q [] ys h = tt
each_front Q (x ∷ xs) ys h = (h.0, each_front Q xs ys h.1)

each_end : (Q : Symbol → Type 0) (xs ys : List Symbol) → AllByRecursion Q (xs ++ ys) → AllByRecursion Q ys
each_end Q [] ys h = h
each_end Q (x ∷ xs) ys h = each_end Q xs ys h.1

each_push : (Q : Symbol → Type 0) (xs : List Symbol) (y : Symbol) → AllByRecursion Q xs → Q y → AllByRecursion Q (xs ++ y ∷ [])
each_push Q [] y h q = (q, tt)
each_push Q (x ∷ xs) y h q = (h.0, each_push Q xs y h.1 q)

-- a word of a kind with so many symbols more
abbrev pub IsLonger : Kind → (Symbol → Type 0) → ℕ → Kind
IsLonger K Q n p u = (front : List Symbol) × (block : List Symbol) × (u ≡ front ++ block) × K p front × (length block ≡ n) × AllByRecursion Q block

pub thens_to : (K : Kind) (Q : Symbol → Type 0) (n p : ℕ) (u : List Symbol) → Thens K Q n p u → IsLonger K Q n p u
thens_to K Q zero p u h = (u, [], sym (append-nil u), h, refl, tt)
thens_to K Q (suc n) p u h =
    let k = thens_to K Q n p h.0 h.3 in (
      k.0,
      k.1 ++ h.1 ∷ [],
      h.2 ∙ ap (λ v. v ++ h.1 ∷ []) k.2 ∙ append_assoc k.0 k.1 (h.1 ∷ []),
      k.3,
      omega (arith, k.4, length-append k.1 (h.1 ∷ [])),
      each_push Q k.1 h.1 k.5 h.4,
    )

pub thens_from : (K : Kind) (Q : Symbol → Type 0) (n p : ℕ) (u : List Symbol) → IsLonger K Q n p u → Thens K Q n p u
thens_from K Q zero p u (front, [], e, k, long, each) = subst (K p) (sym (e ∙ append-nil front)) k
thens_from K Q zero p u (front, x ∷ block, e, k, long, each) = absurd (omega (arith, long))
thens_from K Q (suc n) p u (front, block, e, k, long, each) = by_last (λ d short all. thens_from K Q n p (front ++ d) (front, d, refl, k, short, all)) (ends block)
  where
    by_last : ((d : List Symbol) → length d ≡ n → AllByRecursion Q d → Thens K Q n p (front ++ d)) → (block ≡ []) ⊎ ((d : List Symbol) × (y : Symbol) × (block ≡ d ++ y ∷ [])) → Thens K Q (suc n) p u
    by_last rest (inl none) = absurd (omega (arith, long, ap length none))
    by_last rest (inr (d, y, is)) =
        let all : AllByRecursion Q (d ++ y ∷ []) = subst (AllByRecursion Q) is each in
        let short : length d ≡ n = omega (arith, long, ap length is, length-append d (y ∷ [])) in (
          front ++ d,
          y,
          e ∙ ap (λ v. front ++ v) is ∙ sym (append_assoc front d (y ∷ [])),
          rest d short (each_front Q d (y ∷ []) all),
          (each_end Q d (y ∷ []) all).0,
        )

-- what holds where both tests do
pub both_hold : {A B : Type 0} (a b : Bool) → (a ≡ true) ↔ A → (b ≡ true) ↔ B → ((a && b) ≡ true) ↔ (A × B)
both_hold true true f g = (λ e. (f.0 refl, g.0 refl), λ h. refl)
both_hold true false f g = (λ e. let fails : false ≡ true = e in absurd (cc), λ h. g.1 h.1)
both_hold false true f g = (λ e. let fails : false ≡ true = e in absurd (cc), λ h. f.1 h.0)
both_hold false false f g = (λ e. let fails : false ≡ true = e in absurd (cc), λ h. f.1 h.0)

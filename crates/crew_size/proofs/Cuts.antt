-- Where the log of a section is cut off.
use Rattle.std.proofs.Common.{◌≡◌, ℕ, ◌+◌, ◌-◌, ◌<◌, ◌≤◌, List, [], ◌∷◌, ◌++◌, length, take, drop, get_or, refl, ap, sym, ◌∙◌, subst, arith, inl, inr, ⊎_elim, take-append-drop, length-append}
use Rattle.std.specs.Prelude.{◌⊎◌}
use Rattle.std.proofs.lemmas.List.{drop_all, length-take-le, get_or-take, append_cancel_left}
use Rattle.std.proofs.lemmas.Bool.{cases_lt}
use Rattle.std.proofs.Math.Seq.{take-append_seam, drop-append_seam}
use Rattle.crew_size.specs.Sections.{AreWholeLines, BeginsAsHeading, HasHeadingAt, AreUpToHeading}

none_in_front : (bytes : List ℕ) (n : ℕ) → n ≤ length bytes → ((i : ℕ) → i < n → HasHeadingAt bytes i → ⊥) → (i : ℕ) → i < length (take n bytes) → HasHeadingAt (take n bytes ++ drop n bytes) i → ⊥
none_in_front bytes n within before i less h =
    before i (omega (arith, less, length-take-le n bytes within)) (subst (λ t. HasHeadingAt t i) (take-append-drop n bytes) h)

pub cut_at_heading : (bytes : List ℕ) (n : ℕ) → n < length bytes → ((i : ℕ) → i < n → HasHeadingAt bytes i → ⊥) → HasHeadingAt bytes n → AreUpToHeading (take n bytes) (drop n bytes)
cut_at_heading bytes n less before here =
    let within : n ≤ length bytes = omega (arith, less) in
    record {
      alone = none_in_front bytes n within before;
      cut = inr (subst (λ t. HasHeadingAt t (length (take n bytes))) (sym (take-append-drop n bytes)) (subst (HasHeadingAt bytes) (sym (length-take-le n bytes within)) here));
    }

pub cut_at_end : (bytes : List ℕ) (n : ℕ) → n ≡ length bytes → ((i : ℕ) → i < length bytes → HasHeadingAt bytes i → ⊥) → AreUpToHeading (take n bytes) (drop n bytes)
cut_at_end bytes n e before = record {
  alone = none_in_front bytes n (omega (arith, e)) (λ i less h. before i (omega (arith, less, e)) h);
  cut = inl (drop_all n bytes (omega (arith, e)));
}

-- the lines of a text up to a heading are the same however they are told apart
pub cut_once : (a b r q : List ℕ) → AreUpToHeading a r → AreUpToHeading b q → a ++ r ≡ b ++ q → (a ≡ b) × (r ≡ q)
cut_once a b r q h k e =
    let no : length a ≡ length b =
    ⊎_elim (λ (l : length a < length b). absurd (shorter a b r q h k e l))
    (λ (l : length b ≤ length a).
    ⊎_elim (λ (m : length b < length a). absurd (shorter b a q r k h (sym e) m))
    (λ (m : length a ≤ length b). omega (arith, l, m))
    (cases_lt (length b) (length a)))
    (cases_lt (length a) (length b)) in
    let front : a ≡ b = sym (take-append_seam a r) ∙ ap (take (length a)) e ∙ ap (λ n. take n (b ++ q)) no ∙ take-append_seam b q in
    (front, append_cancel_left a r q (e ∙ ap (λ t. t ++ q) (sym front)))
  where
    shorter : (a b r q : List ℕ) → AreUpToHeading a r → AreUpToHeading b q → a ++ r ≡ b ++ q → length a < length b → ⊥
    shorter a b r q h k e l =
        ⊎_elim
        (λ (none : r ≡ []).
        let long : length (a ++ r) ≡ length (b ++ q) = ap length e in
        let left = length-append a r in
        let right = length-append b q in
        let empty : length r ≡ 0 = ap length none in
        omega (arith, long, left, right, empty, l))
        (λ (here : HasHeadingAt (a ++ r) (length a)). k.alone (length a) l (subst (λ t. HasHeadingAt t (length a)) e here))
        h.cut

-- the rest begins with the heading
pub rest_of_cut : (bytes rest : List ℕ) → (rest ≡ []) ⊎ HasHeadingAt (bytes ++ rest) (length bytes) → (rest ≡ []) ⊎ BeginsAsHeading rest
rest_of_cut bytes rest (inl e) = inl e
rest_of_cut bytes rest (inr h) = inr (subst BeginsAsHeading (drop-append_seam bytes rest) h.1)

-- lines begin at the start, and behind LF

last_of : (body : List ℕ) (b : ℕ) → get_or (body ++ b ∷ []) (length body) 0 ≡ b
last_of [] b = refl
last_of (c ∷ body) b = last_of body b

pub line_goes_on : (bytes : List ℕ) (n : ℕ) → n < length bytes → (n ≡ 0 → ⊥) → (get_or bytes (n - 1) 0 ≡ 10 → ⊥) → AreWholeLines (take n bytes) → ⊥
line_goes_on bytes n less some other (inl e) =
    let long = length-take-le n bytes (omega (arith, less)) in
    let none : length (take n bytes) ≡ 0 = ap length e in
    omega (arith, long, none, some)
line_goes_on bytes n less some other (inr h) =
    let long = length-take-le n bytes (omega (arith, less)) in
    let size : length (take n bytes) ≡ length h.0 + 1 = ap length h.1 ∙ length-append h.0 (10 ∷ []) in
    let place : n - 1 ≡ length h.0 = omega (arith, long, size) in
    let lt : n - 1 < n = omega (arith, some) in
    other (sym (get_or-take n bytes (n - 1) 0 lt) ∙ ap (λ t. get_or t (n - 1) 0) h.1 ∙ ap (λ k. get_or (h.0 ++ 10 ∷ []) k 0) place ∙ last_of h.0 10)

-- Words over domains by their places, and idle splits by the symbols that are left.
use Rattle.std.proofs.Common.{◌≡◌, ◌≢◌, ◌⊎◌, ℕ, zero, suc, ◌+◌, ◌%◌, ◌<◌, ◌≤◌, List, [], ◌∷◌, length, get_or, refl, subst, arith, inl, inr, Bool, true, false, IsTrue, ◌&&◌, ◌||◌, ◌==◌, not}
use Rattle.std.specs.List.{range_with_len, list_all}
use Rattle.std.proofs.lemmas.Bool.{eqb-false, or_from, or_parts, cases_Bool}
use Rattle.rwsp_terms.specs.declared.data.Symbol.{Symbol}
use Rattle.rwsp_terms.specs.Instance.{Instance, cells, shift_count, off_symbol}
use Rattle.refutation_terms.specs.Word.{Domains, Over}
use Rattle.refutation_terms.specs.DayLeaf.{is_only}
use Rattle.refutation_terms.specs.Tree.{is_idle}
use Rattle.refutation_terms.specs.Laws.{OverIsAsSaid, IdleIsAsSaid}
use Rattle.refutation_terms.proofs.Counts.{only_one}

left_fails_or : (a b : Bool) → (a && b) ≡ false → a ≡ true → b ≡ false
left_fails_or true b h e = h
left_fails_or false b h e = absurd (cc)

fails_by : (test : ℕ → Bool) (a n : ℕ) → (list_all test (range_with_len (a + 1) n) ≡ false → (z : ℕ) × (z < a + 1 + n) × (test z ≡ false)) → list_all test (range_with_len a (suc n)) ≡ false → (test a ≡ true) ⊎ (test a ≡ false) → (z : ℕ) × (z < a + suc n) × (test z ≡ false)
fails_by test a n more h (inl e) = let m = more (left_fails_or (test a) (list_all test (range_with_len (a + 1) n)) h e) in (m.0, omega (arith, m.1), m.2)
fails_by test a n more h (inr e) = (a, omega arith, e)

-- a test that fails over a range fails at some number
fails_in_range : (test : ℕ → Bool) (a n : ℕ) → list_all test (range_with_len a n) ≡ false → (z : ℕ) × (z < a + n) × (test z ≡ false)
fails_in_range test a zero e = absurd (cc)
fails_in_range test a (suc n) e = fails_by test a n (λ h. fails_in_range test (a + 1) n h) e (cases_Bool (test a))

failed_not : (a : Bool) → not a ≡ false → IsTrue a
failed_not true h = refl
failed_not false h = absurd (cc)

passed_not : (a : Bool) → IsTrue a → not a ≡ false
passed_not true h = refl
passed_not false h = absurd (cc)

-- the symbol of a split that isn't idle is in the domain
pub there : (P : Instance) (D : Domains) (p x : ℕ) → is_idle P D p x ≡ false → IsTrue (D p x)
there P D p x h = failed_not (D p x) (or_parts (not (D p x)) (is_only P D p x) h).0

-- with another beside it
pub another : (P : Instance) (D : Domains) (p x : ℕ) → is_idle P D p x ≡ false → (z : ℕ) × (z ≤ shift_count P) × ((z == x) ≡ false) × IsTrue (D p z)
another P D p x h =
    let only : is_only P D p x ≡ false = (or_parts (not (D p x)) (is_only P D p x) h).1 in
    let some = fails_in_range (λ z. (z == x) || not (D p z)) 0 (shift_count P + 1) (left_fails_or (D p x) (list_all (λ z. (z == x) || not (D p z)) (range_with_len 0 (shift_count P + 1))) only (there P D p x h)) in
    let parts = or_parts (some.0 == x) (not (D p some.0)) some.2 in
    (some.0, omega (arith, some.1), parts.0, failed_not (D p some.0) parts.1)

not_only : (P : Instance) (D : Domains) (p x z : ℕ) → z ≤ shift_count P → z ≢ x → IsTrue (D p z) → is_only P D p x ≡ false
not_only P D p x z small other left =
    elim (cases_Bool (is_only P D p x)) [ inl only ↦ absurd (other (only_one P D p x z only small left)) | inr e ↦ e ]

pub idle_as_said : IdleIsAsSaid
idle_as_said P D p x = (
  λ h. (let other = another P D p x h in (there P D p x h, (other.0, other.1, eqb-false other.0 x other.2, other.3))),
  λ h. or_from (not (D p x)) (is_only P D p x) (passed_not (D p x) h.0) (not_only P D p x h.1.0 h.1.1 h.1.2 h.1.3),
)

abbrev IsAt : Instance → Domains → ℕ → List Symbol → ℕ → Type 0
IsAt P D p u i = IsTrue (D ((p + i) % cells P) (get_or u i off_symbol).number)

over-places : (P : Instance) (D : Domains) (p : ℕ) (u : List Symbol) → Over P D p u → (i : ℕ) → i < length u → IsAt P D p u i
over-places P D p [] over i lt = absurd (omega (arith, lt))
over-places P D p (x ∷ u) over zero lt = let e : p ≡ p + zero = omega arith in subst (λ q. IsTrue (D (q % cells P) x.number)) e over.0
over-places P D p (x ∷ u) over (suc i) lt =
    let e : p + 1 + i ≡ p + suc i = omega arith in
    subst (λ q. IsTrue (D (q % cells P) (get_or u i off_symbol).number)) e (over-places P D (p + 1) u over.1 i (omega (arith, lt)))

places-over : (P : Instance) (D : Domains) (p : ℕ) (u : List Symbol) → ((i : ℕ) → i < length u → IsAt P D p u i) → Over P D p u
places-over P D p [] h = tt
places-over P D p (x ∷ u) h =
    let e : p + zero ≡ p = omega arith in (
      subst (λ q. IsTrue (D (q % cells P) x.number)) e (h 0 (omega arith)),
      places-over P D (p + 1) u (λ i lt. let d : p + suc i ≡ p + 1 + i = omega arith in
          subst (λ q. IsTrue (D (q % cells P) (get_or u i off_symbol).number)) d (h (suc i) (omega (arith, lt)))),
    )

pub over_as_said : OverIsAsSaid
over_as_said P D p u = (over-places P D p u, places-over P D p u)

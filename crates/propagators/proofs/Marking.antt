-- Rows of marks, one step more.
use Rattle.std.proofs.Common.{◌≡◌, ◌≢◌, ◌⊎◌, inl, inr, ℕ, zero, suc, ◌+◌, ◌-◌, ◌*◌, ◌/◌, ◌%◌, ◌^◌, ◌<◌, ◌≤◌, List, length, get_or, set, replicate, refl, ap, sym, ◌∙◌, subst, arith, eqb, eq-eqb, w64, Bool, false, IsTrue, get_or-set_same, get_or-set_other}
use Rattle.std.specs.Prelude.{◌↔◌}
use Rattle.std.specs.Int.{bit_at}
use Rattle.std.specs.Int.RustNames.{bit_or}
use Rattle.std.proofs.lemmas.Bool.{cases_eq, cases_lt}
use Rattle.std.proofs.lemmas.List.{get_or_past, get_or-replicate, get_or_default}
use Rattle.std.proofs.lemmas.Nat.Bits.{bit_at-zero, bit_at_ones, bit_at_set_same, bit_at_set_other}
use Rattle.clean_words.specs.declared.step.Step.{Step}
use Rattle.propagators.specs.declared.marks.TheConstants.{WORD_BITS}
use Rattle.propagators.specs.declared.marks.Way.{Way}
use Rattle.propagators.specs.Marks.{is_marked, here_of, there_of, StandsAt, IsJoined}

pub unlike : (b : Bool) → b ≡ false → IsTrue b → ⊥
unlike b h g = cc

pub stands_once : {X : Type 0} (xs : List X) (k : ℕ) (x y : X) → StandsAt xs k x → StandsAt xs k y → x ≡ y
stands_once xs k x y h g = sym h.1 ∙ get_or_default xs k x y h.0 ∙ g.1

pub stands_here : {X : Type 0} (xs : List X) (k : ℕ) (d : X) → k < length xs → StandsAt xs k (get_or xs k d)
stands_here xs k d lt = (lt, get_or_default xs k (get_or xs k d) d lt)

-- what the first steps mark
abbrev pub PassesBelow : Way → List Step → (ℕ → Bool) → List ℕ → List ℕ → ℕ → Type 0
PassesBelow way steps has row next number = (t : ℕ) → IsTrue (is_marked next t) ↔ IsJoined way steps has row t number

later : (way : Way) (steps : List Step) (has : ℕ → Bool) (row : List ℕ) (t n : ℕ) → IsJoined way steps has row t n → IsJoined way steps has row t (n + 1)
later way steps has row t n j = record { step = j.step; place = j.place; below = omega (arith, j.below); stands = j.stands; marked = j.marked; held = j.held; joins = j.joins }

earlier : (way : Way) (steps : List Step) (has : ℕ → Bool) (row : List ℕ) (t n : ℕ) (j : IsJoined way steps has row t (n + 1)) → j.place ≢ n → IsJoined way steps has row t n
earlier way steps has row t n j other = record { step = j.step; place = j.place; below = omega (arith, j.below, other); stands = j.stands; marked = j.marked; held = j.held; joins = j.joins }

last_step : (way : Way) (steps : List Step) (has : ℕ → Bool) (row : List ℕ) (t n : ℕ) (s : Step) → StandsAt steps n s → (j : IsJoined way steps has row t (n + 1)) → j.place ≡ n → j.step ≡ s
last_step way steps has row t n s stands j same =
    let P : ℕ → Type 0 = λ k. StandsAt steps k j.step in
    stands_once steps n j.step s (subst P same j.stands) stands

-- the bits of words

-- the bit of a state is set in its word
pub marked_put : (row : List ℕ) (k w t : ℕ) → k / 64 < length row → w ≡ get_or row (k / 64) 0 → IsTrue (is_marked (set row (k / 64) (bit_or w (1 * 2 ^ (k % 64) % 2 ^ 64))) t) ↔ (IsTrue (is_marked row t) ⊎ (k ≡ t))
marked_put row k w t within is = elim (cases_eq (t / 64) (k / 64)) [
  | inl place ↦ elim (cases_eq (t % 64) (k % 64)) [
    | inl bit ↦
        let here : k ≡ t = omega (arith, place, bit) in
        let is_set : bit_at (get_or new (t / 64) 0) (t % 64) ≡ 1 = ap (λ v. bit_at v (t % 64)) (read place) ∙ ap (bit_at word) bit ∙ bit_at_set_same w64 w (k % 64) (omega arith) in
        (λ _. inr here, λ _. eq-eqb _ 1 is_set)
    | inr other ↦
        let same : bit_at (get_or new (t / 64) 0) (t % 64) ≡ bit_at (get_or row (t / 64) 0) (t % 64) =
        ap (λ v. bit_at v (t % 64)) (read place) ∙ bit_at_set_other w64 w (k % 64) (omega arith) (t % 64) other ∙ ap (λ v. bit_at v (t % 64)) (is ∙ ap (λ i. get_or row i 0) (sym place)) in
        by_same same (λ e. other (ap (λ n. n % 64) (sym e)))
  ]
  | inr other ↦
      by_same (ap (λ v. bit_at v (t % 64)) (get_or-set_other row (k / 64) (t / 64) word 0 other)) (λ e. other (ap (λ n. n / 64) (sym e)))
]
  where
    word : ℕ
    word = bit_or w (1 * 2 ^ (k % 64) % 2 ^ 64)

    new : List ℕ
    new = set row (k / 64) (bit_or w (1 * 2 ^ (k % 64) % 2 ^ 64))

    read : t / 64 ≡ k / 64 → get_or (set row (k / 64) (bit_or w (1 * 2 ^ (k % 64) % 2 ^ 64))) (t / 64) 0 ≡ bit_or w (1 * 2 ^ (k % 64) % 2 ^ 64)
    read place = ap (λ i. get_or new i 0) place ∙ get_or-set_same row (k / 64) word 0 within

    by_same : bit_at (get_or new (t / 64) 0) (t % 64) ≡ bit_at (get_or row (t / 64) 0) (t % 64) → (k ≡ t → ⊥) → IsTrue (is_marked new t) ↔ (IsTrue (is_marked row t) ⊎ (k ≡ t))
    by_same same apart =
        let e : is_marked new t ≡ is_marked row t = ap (λ b. eqb b 1) same in (
          λ h. inl (sym e ∙ h),
          λ g. elim g [
            | inl was ↦ e ∙ was
            | inr here ↦ absurd (apart here)
          ],
        )

-- a word without bits marks nothing
pub no_bits : (row : List ℕ) (t : ℕ) → get_or row (t / 64) 0 ≡ 0 → is_marked row t ≡ false
no_bits row t none = ap (λ w. eqb (bit_at w (t % 64)) 1) none ∙ ap (λ b. eqb b 1) (bit_at-zero (t % 64))

pub all_clear : (row : List ℕ) (n t : ℕ) → length row ≤ n → ((k : ℕ) → k < n → get_or row k 0 ≡ 0) → is_marked row t ≡ false
all_clear row n t long none = elim (cases_lt (t / 64) n) [
  | inl less ↦ no_bits row t (none (t / 64) less)
  | inr past ↦ no_bits row t (get_or_past row (t / 64) 0 (omega (arith, long, past)))
]

abbrev zeros : ℕ → List ℕ
zeros n = replicate n 0

zero_at : (n k : ℕ) → get_or (zeros n) k 0 ≡ 0
zero_at zero k = refl
zero_at (suc n) zero = refl
zero_at (suc n) (suc k) = zero_at n k

pub unmarked : (n t : ℕ) → is_marked (replicate n 0) t ≡ false
unmarked n t = no_bits (replicate n 0) t (zero_at n (t / 64))

pub all_marked : (n t : ℕ) → t < WORD_BITS * n → IsTrue (is_marked (replicate n (2 ^ 64 - 1)) t)
all_marked n t within =
    let less : t / 64 < n = omega (arith, within) in
    eq-eqb _ 1 (ap (λ w. bit_at w (t % 64)) (get_or-replicate n (t / 64) (2 ^ 64 - 1) 0 less) ∙ bit_at_ones 64 (t % 64) (omega arith))

-- a step that doesn't join marks nothing
pub passes_over : (way : Way) (steps : List Step) (has : ℕ → Bool) (row next : List ℕ) (n : ℕ) (s : Step) → StandsAt steps n s → (is_marked row (here_of way s) ≡ false) ⊎ (has s.symbol.number ≡ false) → PassesBelow way steps has row next n → PassesBelow way steps has row next (n + 1)
passes_over way steps has row next n s stands fails p t = (
  λ h. later way steps has row t n ((p t).0 h),
  λ j. (p t).1 (earlier way steps has row t n j (λ same.
      let is = last_step way steps has row t n s stands j same in
      elim fails [
        | inl unmarked ↦ unlike (is_marked row (here_of way s)) unmarked (subst (λ (x : Step). IsTrue (is_marked row (here_of way x))) is j.marked)
        | inr out ↦ unlike (has s.symbol.number) out (subst (λ (x : Step). IsTrue (has x.symbol.number)) is j.held)
      ])),
)

pub passes_put : (way : Way) (steps : List Step) (has : ℕ → Bool) (row next new : List ℕ) (n : ℕ) (s : Step) → StandsAt steps n s → IsTrue (is_marked row (here_of way s)) → IsTrue (has s.symbol.number) → ((t : ℕ) → IsTrue (is_marked new t) ↔ (IsTrue (is_marked next t) ⊎ (there_of way s ≡ t))) → PassesBelow way steps has row next n
    → PassesBelow way steps has row new (n + 1)
passes_put way steps has row next new n s stands marked held puts p t = (
  λ h. elim ((puts t).0 h) [
    | inl was ↦ later way steps has row t n ((p t).0 was)
    | inr same ↦ record { step = s; place = n; below = omega arith; stands = stands; marked = marked; held = held; joins = same }
  ],
  λ j. (puts t).1 (elim (cases_eq j.place n) [
    | inl same ↦ inr (sym (ap (there_of way) (last_step way steps has row t n s stands j same)) ∙ j.joins)
    | inr other ↦ inl ((p t).1 (earlier way steps has row t n j other))
  ]),
)

-- How counts change when one domain is cut to a symbol.
use Rattle.std.proofs.Common.{◌≡◌, ◌≢◌, ℕ, zero, suc, ◌+◌, ◌-◌, ◌*◌, ◌/◌, ◌%◌, ◌<◌, ◌≤◌, get_or, refl, ap, sym, ◌∙◌, arith, Bool, true, false, cond, ◌&&◌, ◌||◌, ◌==◌, not, count_by, inl, inr}
use Rattle.std.specs.List.{range_with_len, list_all}
use Rattle.std.proofs.Math.Path.{fun_ext}
use Rattle.std.proofs.Math.Nat.{mul-le-mul_right}
use Rattle.std.proofs.lemmas.Bool.{cases_eq, eq-eqb, ne_eqb}
use Rattle.std.proofs.lemmas.Nat.{div-mul-add, mod-mul-add}
use Rattle.std.proofs.lemmas.List.Sums.{list_all-from_AllPass}
use Rattle.std.proofs.Math.Bool.{and-true, and-false}
use Rattle.rwsp_terms.specs.declared.data.Symbol.{Symbol}
use Rattle.rwsp_terms.specs.Instance.{Instance, cells, shift_count, IsDay}
use Rattle.rwsp_terms.proofs.Counting.{count_same, cond_mono, count_next, count_mono}
use Rattle.refutation_terms.specs.declared.lines.Line.TheVariants.{Split}
use Rattle.refutation_terms.specs.Word.{Domains}
use Rattle.refutation_terms.specs.DayLeaf.{is_only, fixed, possible}
use Rattle.refutation_terms.specs.Tree.{First, narrowed, is_idle}
use Rattle.refutation_terms.proofs.Tests.{left_of, passes_by}
use Rattle.refutation_terms.proofs.Alone.{not_only}
use Rattle.propagators.specs.Tallies.{one_if}
use Rattle.propagators.proofs.TallyLemmas.{count_apart}
use Rattle.propagators.specs.Days.{position_in_week}

-- tests

useful_has : (held only : Bool) → (not held || only) ≡ false → held ≡ true
useful_has true only h = refl
useful_has false only h = absurd (cc)

useful_more : (held only : Bool) → (not held || only) ≡ false → only ≡ false
useful_more true only h = h
useful_more false only h = absurd (cc)

pub held : (P : Instance) (D : Domains) (p x : ℕ) → is_idle P D p x ≡ false → D p x ≡ true
held P D p x h = useful_has (D p x) (is_only P D p x) h

not_alone : (P : Instance) (D : Domains) (p x : ℕ) → is_idle P D p x ≡ false → is_only P D p x ≡ false
not_alone P D p x h = useful_more (D p x) (is_only P D p x) h

-- a symbol beside another
pub useful : (P : Instance) (D : Domains) (p x z : ℕ) → z ≤ shift_count P → z ≢ x → D p z ≡ true → D p x ≡ true → is_idle P D p x ≡ false
useful P D p x z le other there here =
    ap (λ b. not b || is_only P D p x) here ∙ not_only P D p x z (omega (arith, le)) other there

test_there : (f : ℕ → Bool) (a i : ℕ) (b : Bool) → a ≡ i → f i ≡ b → cond {A = ℕ} (f a) 1 0 ≡ cond {A = ℕ} b 1 0
test_there f a i b here e = ap (λ k. cond {A = ℕ} (f k) 1 0) here ∙ ap (λ c. cond {A = ℕ} c 1 0) e

-- where one test fails that another passes, and passes nowhere else either, fewer pass it
fewer : (f g : ℕ → Bool) (a n i : ℕ) → a ≤ i → i < a + n → ((k : ℕ) → f k ≡ true → g k ≡ true) → f i ≡ false → g i ≡ true → count_by f (range_with_len a n) < count_by g (range_with_len a n)
fewer f g a zero i le lt both fails passes = absurd (omega (arith, le, lt))
fewer f g a (suc n) i le lt both fails passes =
    let e : count_by f (range_with_len a (suc n)) ≡ cond (f a) 1 0 + count_by f (range_with_len (a + 1) n) = count_next f a n in
    let d : count_by g (range_with_len a (suc n)) ≡ cond (g a) 1 0 + count_by g (range_with_len (a + 1) n) = count_next g a n in
    elim (cases_eq a i) [
      | inl here ↦
          let less : count_by f (range_with_len (a + 1) n) ≤ count_by g (range_with_len (a + 1) n) = count_mono f g (a + 1) n (λ k above below. both k) in
          let none : cond {A = ℕ} (f a) 1 0 ≡ 0 = test_there f a i false here fails in
          let one : cond {A = ℕ} (g a) 1 0 ≡ 1 = test_there g a i true here passes in
          omega (arith, e, d, less, none, one)
      | inr other ↦
          let next : a + 1 ≤ i = omega arith in
          let rest : count_by f (range_with_len (a + 1) n) < count_by g (range_with_len (a + 1) n) = fewer f g (a + 1) n i next (omega (arith, lt)) both fails passes in
          let here : cond {A = ℕ} (f a) 1 0 ≤ cond {A = ℕ} (g a) 1 0 = cond_mono (f a) (g a) (both a) in
          omega (arith, e, d, rest, here)
    ]

-- idle splits

only_by : (P : Instance) (D : Domains) (p x : ℕ) → D p x ≡ true → ((z : ℕ) → D p z ≡ true → z ≡ x) → is_only P D p x ≡ true
only_by P D p x here alone =
    ap (λ b. b && list_all (λ z. (z == x) || not (D p z)) (range_with_len 0 (shift_count P + 1))) here
    ∙ list_all-from_AllPass (λ z. (z == x) || not (D p z)) (range_with_len 0 (shift_count P + 1))
    (λ i d lt.
    let z : ℕ = get_or (range_with_len 0 (shift_count P + 1)) i d in
    passes_by (z == x) (D p z) (λ there. eq-eqb z x (alone z there)))

pub idle_alone : (P : Instance) (D : Domains) (p x : ℕ) → D p x ≡ true → ((z : ℕ) → D p z ≡ true → z ≡ x) → is_idle P D p x ≡ true
idle_alone P D p x here alone = ap (λ b. not b || is_only P D p x) here ∙ only_by P D p x here alone

-- a symbol that is beside another on its day has more weeks that can hold it than weeks that certainly do
pub fewer_fixed : (P : Instance) (D : Domains) (i j x : ℕ) → i < P.weeks → is_idle P D (position_in_week P i j) x ≡ false → fixed P D j x < possible P D j x
fewer_fixed P D i j x lt h =
    fewer (λ k. is_only P D (position_in_week P k j) x) (λ k. D (position_in_week P k j) x) 0 P.weeks i (omega arith) (omega (arith, lt))
    (λ k only. left_of (D (position_in_week P k j) x) (list_all (λ z. (z == x) || not (D (position_in_week P k j) z)) (range_with_len 0 (shift_count P + 1))) only)
    (not_alone P D (position_in_week P i j) x h) (held P D (position_in_week P i j) x h)

-- domains of which one is cut

cut_other : (D : Domains) (p q : ℕ) (x : Symbol) → q ≢ p → narrowed D (Split p x) First q ≡ D q
cut_other D p q x other =
    fun_ext (λ z. ap (λ b. D q z && (not b || (z == x.number))) (ne_eqb p q (λ e. other (sym e))) ∙ and-true (D q z))

cut_here : (D : Domains) (p z : ℕ) (x : Symbol) → narrowed D (Split p x) First p z ≡ (D p z && (z == x.number))
cut_here D p z x = ap (λ b. D p z && (not b || (z == x.number))) (eq-eqb p p refl)

cut_symbol : (D : Domains) (p : ℕ) (x : Symbol) → D p x.number ≡ true → narrowed D (Split p x) First p x.number ≡ true
cut_symbol D p x has = cut_here D p x.number x ∙ ap (λ b. b && (x.number == x.number)) has ∙ eq-eqb x.number x.number refl

cut_away : (D : Domains) (p z : ℕ) (x : Symbol) → z ≢ x.number → narrowed D (Split p x) First p z ≡ false
cut_away D p z x other = cut_here D p z x ∙ ap (λ b. D p z && b) (ne_eqb z x.number other) ∙ and-false (D p z)

only_elsewhere : (P : Instance) (D : Domains) (p q z : ℕ) (x : Symbol) → q ≢ p → is_only P (narrowed D (Split p x) First) q z ≡ is_only P D q z
only_elsewhere P D p q z x other =
    ap (λ (f : ℕ → Bool). f z && list_all (λ y. (y == z) || not (f y)) (range_with_len 0 (shift_count P + 1))) (cut_other D p q x other)

false_true : (b : Bool) → b ≡ false → b ≡ true → ⊥
false_true b h g = cc

only_cut : (P : Instance) (D : Domains) (p : ℕ) (x : Symbol) → D p x.number ≡ true → is_only P (narrowed D (Split p x) First) p x.number ≡ true
only_cut P D p x has =
    only_by P (narrowed D (Split p x) First) p x.number (cut_symbol D p x has)
    (λ z there.
    elim (cases_eq z x.number) [
      | inl same ↦ same
      | inr other ↦ absurd (false_true (narrowed D (Split p x) First p z) (cut_away D p z x other) there)
    ])

only_other_cut : (P : Instance) (D : Domains) (p z : ℕ) (x : Symbol) → z ≢ x.number → is_only P (narrowed D (Split p x) First) p z ≡ false
only_other_cut P D p z x other =
    ap (λ b. b && list_all (λ y. (y == z) || not (narrowed D (Split p x) First p y)) (range_with_len 0 (shift_count P + 1))) (cut_away D p z x other)

-- places of a day

small_day : (P : Instance) (j : ℕ) → IsDay P j → j - 1 < P.days
small_day P j day = omega (arith, day.0, day.1)

same_week : (P : Instance) (i k j : ℕ) → IsDay P j → position_in_week P i j ≡ position_in_week P k j → i ≡ k
same_week P i k j day e =
    sym (div-mul-add i P.days (j - 1) (small_day P j day)) ∙ ap (λ n. n / P.days) e ∙ div-mul-add k P.days (j - 1) (small_day P j day)

same_day : (P : Instance) (i k j l : ℕ) → IsDay P j → IsDay P l → position_in_week P i j ≡ position_in_week P k l → j ≡ l
same_day P i k j l day other e =
    let same : j - 1 ≡ l - 1 = sym (mod-mul-add i P.days (j - 1) (small_day P j day)) ∙ ap (λ n. n % P.days) e ∙ mod-mul-add k P.days (l - 1) (small_day P l other) in
    omega (arith, same, day.0, other.0)

pub place_within : (P : Instance) (i j : ℕ) → i < P.weeks → IsDay P j → position_in_week P i j < cells P
place_within P i j lt day =
    let rows : suc i * P.days ≤ P.weeks * P.days = mul-le-mul_right P.days (let le : suc i ≤ P.weeks = omega (arith, lt) in le) in
    omega (arith, rows, small_day P j day)

-- the counts of the other days

pub fixed_elsewhere : (P : Instance) (D : Domains) (i j l z : ℕ) (x : Symbol) → IsDay P j → IsDay P l → l ≢ j → fixed P (narrowed D (Split (position_in_week P i j) x) First) l z ≡ fixed P D l z
fixed_elsewhere P D i j l z x day other apart =
    count_same (λ k. is_only P (narrowed D (Split (position_in_week P i j) x) First) (position_in_week P k l) z) (λ k. is_only P D (position_in_week P k l) z) 0 P.weeks
    (λ k le lt. only_elsewhere P D (position_in_week P i j) (position_in_week P k l) z x (λ e. apart (same_day P k i l j other day e)))

pub possible_elsewhere : (P : Instance) (D : Domains) (i j l z : ℕ) (x : Symbol) → IsDay P j → IsDay P l → l ≢ j → possible P (narrowed D (Split (position_in_week P i j) x) First) l z ≡ possible P D l z
possible_elsewhere P D i j l z x day other apart =
    count_same (λ k. narrowed D (Split (position_in_week P i j) x) First (position_in_week P k l) z) (λ k. D (position_in_week P k l) z) 0 P.weeks
    (λ k le lt. ap (λ f. f z) (cut_other D (position_in_week P i j) (position_in_week P k l) x (λ e. apart (same_day P k i l j other day e))))

-- and of its own

fixed_own : (P : Instance) (D : Domains) (i j z : ℕ) (x : Symbol) → i < P.weeks → IsDay P j
    → fixed P (narrowed D (Split (position_in_week P i j) x) First) j z + one_if (is_only P D (position_in_week P i j) z) ≡ fixed P D j z + one_if (is_only P (narrowed D (Split (position_in_week P i j) x) First) (position_in_week P i j) z)
fixed_own P D i j z x lt day =
    count_apart (λ k. is_only P (narrowed D (Split (position_in_week P i j) x) First) (position_in_week P k j) z) (λ k. is_only P D (position_in_week P k j) z) 0 P.weeks i (omega arith) (omega (arith, lt))
    (λ k other. only_elsewhere P D (position_in_week P i j) (position_in_week P k j) z x (λ e. other (same_week P k i j day e)))

possible_own : (P : Instance) (D : Domains) (i j z : ℕ) (x : Symbol) → i < P.weeks → IsDay P j
    → possible P (narrowed D (Split (position_in_week P i j) x) First) j z + one_if (D (position_in_week P i j) z) ≡ possible P D j z + one_if (narrowed D (Split (position_in_week P i j) x) First (position_in_week P i j) z)
possible_own P D i j z x lt day =
    count_apart (λ k. narrowed D (Split (position_in_week P i j) x) First (position_in_week P k j) z) (λ k. D (position_in_week P k j) z) 0 P.weeks i (omega arith) (omega (arith, lt))
    (λ k other. ap (λ f. f z) (cut_other D (position_in_week P i j) (position_in_week P k j) x (λ e. other (same_week P k i j day e))))

pub fixed_of_symbol : (P : Instance) (D : Domains) (i j : ℕ) (x : Symbol) → i < P.weeks → IsDay P j → is_idle P D (position_in_week P i j) x.number ≡ false
    → fixed P (narrowed D (Split (position_in_week P i j) x) First) j x.number ≡ fixed P D j x.number + 1
fixed_of_symbol P D i j x lt day h =
    let own = fixed_own P D i j x.number x lt day in
    let was : one_if (is_only P D (position_in_week P i j) x.number) ≡ 0 = ap one_if (not_alone P D (position_in_week P i j) x.number h) in
    let is : one_if (is_only P (narrowed D (Split (position_in_week P i j) x) First) (position_in_week P i j) x.number) ≡ 1 = ap one_if (only_cut P D (position_in_week P i j) x (held P D (position_in_week P i j) x.number h)) in
    omega (arith, own, was, is)

pub fixed_of_other : (P : Instance) (D : Domains) (i j z : ℕ) (x : Symbol) → i < P.weeks → IsDay P j → z ≢ x.number
    → fixed P (narrowed D (Split (position_in_week P i j) x) First) j z ≤ fixed P D j z
fixed_of_other P D i j z x lt day other =
    let own = fixed_own P D i j z x lt day in
    let is : one_if (is_only P (narrowed D (Split (position_in_week P i j) x) First) (position_in_week P i j) z) ≡ 0 = ap one_if (only_other_cut P D (position_in_week P i j) z x other) in
    omega (arith, own, is)

pub possible_of_symbol : (P : Instance) (D : Domains) (i j : ℕ) (x : Symbol) → i < P.weeks → IsDay P j → D (position_in_week P i j) x.number ≡ true
    → possible P (narrowed D (Split (position_in_week P i j) x) First) j x.number ≡ possible P D j x.number
possible_of_symbol P D i j x lt day has =
    let own = possible_own P D i j x.number x lt day in
    let was : one_if (D (position_in_week P i j) x.number) ≡ 1 = ap one_if has in
    let is : one_if (narrowed D (Split (position_in_week P i j) x) First (position_in_week P i j) x.number) ≡ 1 = ap one_if (cut_symbol D (position_in_week P i j) x has) in
    omega (arith, own, was, is)

pub possible_of_other : (P : Instance) (D : Domains) (i j z : ℕ) (x : Symbol) (held : Bool) → i < P.weeks → IsDay P j → z ≢ x.number → D (position_in_week P i j) z ≡ held
    → possible P (narrowed D (Split (position_in_week P i j) x) First) j z + one_if held ≡ possible P D j z
possible_of_other P D i j z x held lt day other has =
    let own = possible_own P D i j z x lt day in
    let was : one_if (D (position_in_week P i j) z) ≡ one_if held = ap one_if has in
    let is : one_if (narrowed D (Split (position_in_week P i j) x) First (position_in_week P i j) z) ≡ 0 = ap one_if (cut_away D (position_in_week P i j) z x other) in
    omega (arith, own, was, is)

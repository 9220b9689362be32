-- What numbers and values words spell.
use Rattle.std.proofs.Common.{◌≡◌, ◌≢◌, ℕ, zero, suc, ◌-◌, ◌^◌, ◌<◌, ◌≤◌, List, [], ◌∷◌, length, get_or, refl, ap, sym, ◌∙◌, subst, arith, ◌⊎◌, inl, inr, ⊎_elim, Option, Some, None, Bool, true, false, cond, not, ◌&&◌, ◌==◌, lit<}
use Rattle.std.specs.Prelude.{ℤ, pos, negsuc, nat_le, slice_index}
use Rattle.std.specs.Option.{option_map}
use Rattle.std.specs.List.{list_all}
use Rattle.std.specs.Char.{is_ascii_digit}
use Rattle.std.specs.Fmt.{decimal, signed_decimal}
use Rattle.std.proofs.lemmas.Str.Parse.{digits_value_short}
use Rattle.std.proofs.lemmas.Fmt.{decimal_digit, digits_decimal, digits_value-decimal, decimal_nonempty, length-decimal-le, first_decimal, decimal-digits_value}
use Rattle.std.proofs.lemmas.Bool.{leb-true, le-leb, eq-eqb, ne_eqb, eqb-true, and_parts, and_from, or_cases, or_right, not-true}
use Rattle.std.proofs.lemmas.Bool.Decides.{nat_tests}
use Rattle.std.proofs.lemmas.Int.{ints}
use Rattle.rwsp_text.specs.Numbers.{number_of, value_of}
use Rattle.rwsp_text.specs.Fields.{◌>>=◌, is_plain_number, numeral, within, number_in, value_in, negated, IsValue}
use Rattle.rwsp_text.proofs.Printed.{ascii_digits_model, printed_is_read}

pub if_some : {A : Type 0} (b : Bool) (o : Option A) (a : A) → cond b o None ≡ Some a → (b ≡ true) × (o ≡ Some a)
if_some true o a e = (refl, e)
if_some false o a e = absurd (cc)

pub if_true : {A : Type 0} (b : Bool) (x y : A) → b ≡ true → cond b x y ≡ x
if_true b x y e = ap (λ t. cond t x y) e

pub if_false : {A : Type 0} (b : Bool) (x y : A) → b ≡ false → cond b x y ≡ y
if_false b x y e = ap (λ t. cond t x y) e

pub bind_found : {A B : Type 0} (o : Option A) (f : A → Option B) (b : B) → (o >>= f) ≡ Some b → (a : A) × (o ≡ Some a) × (f a ≡ Some b)
bind_found None f b e = absurd (cc)
bind_found (Some a) f b e = (a, refl, e)

pub bind_only : {A B : Type 0} (o : Option A) (f : A → Option B) (a : A) (r : Option B) → o ≡ Some a → f a ≡ r → (o >>= f) ≡ r
bind_only o f a r e h = ap (λ z. z >>= f) e ∙ h

pub mapped : {A B : Type 0} (f : A → B) (o : Option A) (y : B) → option_map f o ≡ Some y → (x : A) × (o ≡ Some x) × (f x ≡ y)
mapped f None y e = absurd (cc)
mapped f (Some x) y e = (x, refl, let same : f x ≡ y = cc in same)

plain_alone : (w : List ℕ) → 0 < length w → is_plain_number w ≡ true → get_or w 0 0 ≡ 48 → length w ≡ 1
plain_alone w some p e =
    ⊎_elim
    (λ (a : nat_le (length w) 1 ≡ true). let le = leb-true (length w) 1 a in omega (arith, some, le))
    (λ (b : not (slice_index w 0 == 48) ≡ true). let no = not-true (slice_index w 0 == 48) b in let yes = eq-eqb (slice_index w 0) 48 e in absurd (cc))
    (or_cases (nat_le (length w) 1) (not (slice_index w 0 == 48)) p)

abbrev digits_test : List ℕ → Bool
digits_test w = nat_le 1 (length w) && nat_le (length w) 19 && list_all is_ascii_digit w

pub number_found : (low high : ℕ) (w : List ℕ) (n : ℕ) → number_in low high w ≡ Some n → (low ≤ n) × (n ≤ high) × (w ≡ decimal n)
unfolding number_in
number_found low high w n h =
    let q = bind_found (numeral w) (within low high) n h in
    let r = if_some (nat_le low q.0 && nat_le q.0 high) (Some q.0) n q.2 in
    let p = if_some (is_plain_number w && digits_test w) (Some (value_of w)) q.0 q.1 in
    let t = and_parts (is_plain_number w) (digits_test w) p.0 in
    let same : q.0 ≡ n = let e = r.1 in cc in
    let value : value_of w ≡ n = let e : Some (value_of w) ≡ Some q.0 = p.1 in cc in
    let bounds = and_parts (nat_le low q.0) (nat_le q.0 high) r.0 in
    let tests = and_parts (nat_le 1 (length w) && nat_le (length w) 19) (list_all is_ascii_digit w) t.1 in
    let lens = and_parts (nat_le 1 (length w)) (nat_le (length w) 19) tests.0 in
    let some : 0 < length w = leb-true 1 (length w) lens.0 in
    let short : value_of w < 10 ^ 19 = digits_value_short ascii_digits_model w 19 tests.1 (leb-true (length w) 19 lens.1) in
    let small : value_of w < 2 ^ 64 = omega (arith, short) in
    let text : decimal (value_of w) ≡ w = decimal-digits_value ascii_digits_model w tests.1 some (plain_alone w some t.0) small in (
      subst (λ m. low ≤ m) same (leb-true low q.0 bounds.0),
      subst (λ m. m ≤ high) same (leb-true q.0 high bounds.1),
      sym text ∙ ap decimal value,
    )

first_of_decimal : (n : ℕ) → n < 10 ^ 19 → (n ≡ 0) ⊎ (0 < n) → is_plain_number (decimal n) ≡ true
first_of_decimal n small (inl e) = ap (λ m. is_plain_number (decimal m)) e ∙ ap is_plain_number (decimal_digit 0 (lit< tt))
first_of_decimal n small (inr some) =
    let first : 48 < get_or (decimal n) 0 0 = first_decimal n some (omega (arith, small)) in
    or_right (nat_le (length (decimal n)) 1) (not (slice_index (decimal n) 0 == 48))
    (ap not (ne_eqb (slice_index (decimal n) 0) 48 (λ e. omega (arith, first, e))))

zero_or_not : (n : ℕ) → (n ≡ 0) ⊎ (0 < n)
zero_or_not zero = inl refl
zero_or_not (suc n) = inr (omega arith)

numeral_of_decimal : (n : ℕ) → n < 10 ^ 19 → numeral (decimal n) ≡ Some n
numeral_of_decimal n small =
    let big : n < 2 ^ 64 = omega (arith, small) in
    let some : 1 ≤ length (decimal n) = decimal_nonempty n big in
    let few : length (decimal n) ≤ 19 = length-decimal-le 19 n (omega arith) small big in
    if_true (is_plain_number (decimal n) && digits_test (decimal n)) (Some (value_of (decimal n))) None
    (and_from (is_plain_number (decimal n)) (digits_test (decimal n)) (first_of_decimal n small (zero_or_not n))
    (and_from (nat_le 1 (length (decimal n)) && nat_le (length (decimal n)) 19) (list_all is_ascii_digit (decimal n))
    (and_from (nat_le 1 (length (decimal n))) (nat_le (length (decimal n)) 19) (le-leb 1 (length (decimal n)) some) (le-leb (length (decimal n)) 19 few))
    (digits_decimal ascii_digits_model n big)))
    ∙ ap (λ m. Some m) (digits_value-decimal ascii_digits_model n big)

pub number_only : (low high n : ℕ) → low ≤ n → n ≤ high → high < 10 ^ 19 → number_in low high (decimal n) ≡ Some n
unfolding number_in
number_only low high n a b c =
    bind_only (numeral (decimal n)) (within low high) n (Some n) (numeral_of_decimal n (omega (arith, b, c)))
    (if_true (nat_le low n && nat_le n high) (Some n) None (and_from (nat_le low n) (nat_le n high) (le-leb low n a) (le-leb n high b)))

pub no_number : (low high : ℕ) (w : List ℕ) → numeral w ≡ None → number_in low high w ≡ None
unfolding number_in
no_number low high w e = ap (λ o. o >>= within low high) e

-- numbers below a thousand million are read by their nine digits at most
pub not_plain : (low high : ℕ) (w : List ℕ) → is_plain_number w ≡ false → number_in low high w ≡ None
not_plain low high w e = no_number low high w (if_false (is_plain_number w && digits_test w) (Some (value_of w)) None (ap (λ b. b && digits_test w) e))

too_long_by : (low high : ℕ) (w : List ℕ) (o : Option ℕ) → high < 10 ^ 9 → number_of w ≡ None → number_in low high w ≡ o → o ≡ None
too_long_by low high w None few none e = refl
too_long_by low high w (Some n) few none e =
    let f = number_found low high w n e in
    let read : number_of w ≡ Some n = ap number_of f.2 ∙ printed_is_read n (omega (arith, f.1, few)) in
    absurd (cc)

pub too_long : (low high : ℕ) (w : List ℕ) → high < 10 ^ 9 → number_of w ≡ None → number_in low high w ≡ None
too_long low high w few none = too_long_by low high w (number_in low high w) few none refl

pub plain_number : (low high : ℕ) (w : List ℕ) (n : ℕ) → is_plain_number w ≡ true → number_of w ≡ Some n → number_in low high w ≡ within low high n
unfolding number_in
plain_number low high w n plain e =
    let t = if_some (nat_le 1 (length w) && nat_le (length w) 9 && list_all is_ascii_digit w) (Some (value_of w)) n e in
    let tests = and_parts (nat_le 1 (length w) && nat_le (length w) 9) (list_all is_ascii_digit w) t.0 in
    let lens = and_parts (nat_le 1 (length w)) (nat_le (length w) 9) tests.0 in
    let nine = leb-true (length w) 9 lens.1 in
    let read : numeral w ≡ Some (value_of w) =
    if_true (is_plain_number w && digits_test w) (Some (value_of w)) None
    (and_from (is_plain_number w) (digits_test w) plain
    (and_from (nat_le 1 (length w) && nat_le (length w) 19) (list_all is_ascii_digit w)
    (and_from (nat_le 1 (length w)) (nat_le (length w) 19) lens.0 (le-leb (length w) 19 (omega (arith, nine)))) tests.1)) in
    ap (λ o. o >>= within low high) (read ∙ t.1)

above_leb : (a b : ℕ) → b < a → nat_le a b ≡ false
above_leb a b h = grind (arith, nat_tests)

and_false : (b : Bool) → (b && false) ≡ false
and_false true = refl
and_false false = refl

pub plain_within : (low high : ℕ) (w : List ℕ) (n : ℕ) → is_plain_number w ≡ true → number_of w ≡ Some n → low ≤ n → n ≤ high → number_in low high w ≡ Some n
plain_within low high w n plain e a b =
    plain_number low high w n plain e ∙ if_true (nat_le low n && nat_le n high) (Some n) None (and_from (nat_le low n) (nat_le n high) (le-leb low n a) (le-leb n high b))

pub plain_below : (low high : ℕ) (w : List ℕ) (n : ℕ) → is_plain_number w ≡ true → number_of w ≡ Some n → n < low → number_in low high w ≡ None
plain_below low high w n plain e out =
    plain_number low high w n plain e ∙ if_false (nat_le low n && nat_le n high) (Some n) None (ap (λ b. b && nat_le n high) (above_leb low n out))

pub plain_above : (low high : ℕ) (w : List ℕ) (n : ℕ) → is_plain_number w ≡ true → number_of w ≡ Some n → high < n → number_in low high w ≡ None
plain_above low high w n plain e out =
    plain_number low high w n plain e ∙ if_false (nat_le low n && nat_le n high) (Some n) None (ap (λ b. nat_le low n && b) (above_leb n high out) ∙ and_false (nat_le low n))

-- values

ℕ_suc : (n : ℕ) → 1 ≤ n → suc (n - 1) ≡ n
ℕ_suc n h = omega (arith, h)

value_by : (g c : ℕ) (cs : List ℕ) (v : ℤ) (b : Bool) → (c == 45) ≡ b → cond b (option_map negated (number_in 1 g cs)) (option_map pos (number_in 1 g (c ∷ cs))) ≡ Some v → (c ∷ cs ≡ signed_decimal v) × IsValue g v
value_by g c cs v true t h =
    let m = mapped negated (number_in 1 g cs) v h in
    let f = number_found 1 g cs m.0 m.1 in
    let text : c ∷ cs ≡ signed_decimal (negated m.0) = ap (λ d. d ∷ cs) (eqb-true c 45 t) ∙ ap (λ w. 45 ∷ w) (f.2 ∙ ap decimal (sym (ℕ_suc m.0 f.0))) in
    let fits : IsValue g (negated m.0) = (omega (arith, ints, f.0, f.1), omega (arith, ints), λ e. cc) in
    (text ∙ ap signed_decimal m.2, subst (IsValue g) m.2 fits)
value_by g c cs v false t h =
    let m = mapped pos (number_in 1 g (c ∷ cs)) v h in
    let f = number_found 1 g (c ∷ cs) m.0 m.1 in
    let fits : IsValue g (pos m.0) = (omega (arith, ints), omega (arith, ints, f.1), λ e. let z : m.0 ≡ 0 = cc in omega (arith, z, f.0)) in
    (f.2 ∙ ap signed_decimal m.2, subst (IsValue g) m.2 fits)

pub value_found : (g : ℕ) (w : List ℕ) (v : ℤ) → value_in g w ≡ Some v → (w ≡ signed_decimal v) × IsValue g v
unfolding value_in
value_found g [] v h = absurd (cc)
value_found g (c ∷ cs) v h = value_by g c cs v (c == 45) refl h

value_pos : (g : ℕ) (w : List ℕ) (n : ℕ) → g < 10 ^ 19 → w ≡ decimal n → 1 ≤ n → n ≤ g → value_in g w ≡ Some (pos n)
unfolding value_in
value_pos g [] n small e a b = let some = decimal_nonempty n (omega (arith, b, small)) in absurd (omega (arith, ap length e, some))
value_pos g (c ∷ cs) n small e a b =
    let first : 48 < get_or (decimal n) 0 0 = first_decimal n a (omega (arith, b, small)) in
    let same : c ≡ get_or (decimal n) 0 0 = ap (λ w. get_or w 0 0) e in
    let not_dash : c ≢ 45 = λ z. omega (arith, first, same, z) in
    if_false (c == 45) (option_map negated (number_in 1 g cs)) (option_map pos (number_in 1 g (c ∷ cs))) (ne_eqb c 45 not_dash)
    ∙ ap (λ o. option_map pos o) (ap (number_in 1 g) e ∙ number_only 1 g n a b small)

value_neg : (g m : ℕ) → g < 10 ^ 19 → suc m ≤ g → value_in g (45 ∷ decimal (suc m)) ≡ Some (negsuc m)
unfolding value_in
value_neg g m small h = ap (λ o. option_map negated o) (number_only 1 g (suc m) (omega arith) h small) ∙ ap (λ k. Some (negsuc k)) (let e : suc m - 1 ≡ m = omega arith in e)

pub value_only : (g : ℕ) (v : ℤ) → 1 ≤ g → g < 10 ^ 19 → IsValue g v → value_in g (signed_decimal v) ≡ Some v
value_only g (pos n) some small h = value_pos g (decimal n) n small refl (let ne : n ≢ 0 = λ e. h.2 (ap pos e) in omega (arith, ne)) (omega (arith, ints, h.1))
value_only g (negsuc m) some small h = value_neg g m small (omega (arith, ints, h.0, some))

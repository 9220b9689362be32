-- What single words of a line are read as.
use Rattle.std.proofs.Common.{◌≡◌, ◌≢◌, ℕ, zero, suc, ◌+◌, ◌-◌, ◌*◌, ◌/◌, ◌%◌, ◌^◌, ◌<◌, ◌≤◌, List, [], ◌∷◌, ◌++◌, length, refl, ap, sym, ◌∙◌, subst, arith, Option, Some, None, Bool, true, false, cond, not, ◌||◌, ◌==◌}
use Rattle.std.specs.Prelude.{ℤ, All}
use Rattle.std.specs.Option.{option_map}
use Rattle.std.specs.List.{list_all, flat_map}
use Rattle.std.specs.Str.{bytes_eq}
use Rattle.std.specs.Fmt.{decimal, signed_decimal}
use Rattle.std.proofs.Math.Nat.{div-lt_iff_lt-mul}
use Rattle.std.proofs.lemmas.Nat.{mod-mul-add, div-mul-add, div-add-mod'}
use Rattle.std.proofs.lemmas.Slice.Eq.{bytes_eq-Decides}
use Rattle.std.proofs.lemmas.Bool.{ne_eqb, and_parts, and_from}
use Rattle.std.proofs.lemmas.List.Elements.{All-nil, All-cons, All-head, All-tail}
use Rattle.rwsp_text.specs.Fields.{Words, ◌>>=◌, IsName, NamedWeight, IsNamedWeight, Ascends, numbers, week_and_day, either_word, weight_fields, number_in, value_in, is_name, is_visible, number_at, name_at, word_at, choice_at, done_at, place_at, front_onto, rules_front, rules_at, weight_from, weight_of_words, weights_at}
use Rattle.rwsp_text.proofs.Rising.{RisesFrom, increasing, rises}
use Rattle.rwsp_text.proofs.Numerals.{if_some, if_true, mapped, bind_found, bind_only, number_found, number_only, value_found, value_only}

abbrev pub pair_of : {A B : Type 0} → A → B → A × B
pair_of a b = (a, b)

pub same_pairs : {A B : Type 0} (a b : A) (c d : B) → Some (pair_of a c) ≡ Some (pair_of b d) → (a ≡ b) × (c ≡ d)
same_pairs {A} {B} a b c d e =
    let p : pair_of a c ≡ pair_of b d = cc in
    (ap (λ (q : A × B). q.0) p, ap (λ (q : A × B). q.1) p)

-- numbers
pub number_at_found : (low high n : ℕ) (ws rest : Words) → number_at low high ws ≡ Some (n, rest) → (low ≤ n) × (n ≤ high) × (ws ≡ decimal n ∷ rest)
unfolding number_at
number_at_found low high n [] rest h = absurd (cc)
number_at_found low high n (w ∷ ws) rest h =
    let m = mapped (λ (k : ℕ). pair_of k ws) (number_in low high w) (n, rest) h in
    let same = same_pairs m.0 n ws rest (ap (λ p. Some p) m.2) in
    let f = number_found low high w n (m.1 ∙ ap (λ k. Some k) same.0) in
    (f.0, f.1, ap (λ z. z ∷ ws) f.2 ∙ ap (λ us. decimal n ∷ us) same.1)

pub number_at_only : (low high n : ℕ) (rest : Words) → low ≤ n → n ≤ high → high < 10 ^ 19 → number_at low high (decimal n ∷ rest) ≡ Some (n, rest)
unfolding number_at
number_at_only low high n rest a b c = ap (λ o. option_map (λ (k : ℕ). pair_of k rest) o) (number_only low high n a b c)

-- names
abbrev pub Seen : ℕ → Type 0
Seen b = (b ≢ 32) × (b ≢ 9) × (b ≢ 13) × (b ≢ 10)

pub seen_found : (b : ℕ) → is_visible b ≡ true → Seen b
seen_found b h = (
  λ e. let no : is_visible 32 ≡ true = subst (λ z. is_visible z ≡ true) e h in cc,
  λ e. let no : is_visible 9 ≡ true = subst (λ z. is_visible z ≡ true) e h in cc,
  λ e. let no : is_visible 13 ≡ true = subst (λ z. is_visible z ≡ true) e h in cc,
  λ e. let no : is_visible 10 ≡ true = subst (λ z. is_visible z ≡ true) e h in cc,
)

not_one : (p q r s : Bool) → p ≡ false → q ≡ false → r ≡ false → s ≡ false → not (p || q || r || s) ≡ true
not_one p q r s a b c d = rw (a, b, c, d) refl

pub seen_only : (b : ℕ) → Seen b → is_visible b ≡ true
seen_only b h = not_one (b == 32) (b == 9) (b == 13) (b == 10) (ne_eqb b 32 h.0) (ne_eqb b 9 h.1) (ne_eqb b 13 h.2) (ne_eqb b 10 h.3)

all_seen : (w : List ℕ) → list_all is_visible w ≡ true → All Seen w
all_seen [] h = All-nil Seen
all_seen (b ∷ w) h = let p = and_parts (is_visible b) (list_all is_visible w) h in All-cons Seen b w (seen_found b p.0) (all_seen w p.1)

all_visible : (w : List ℕ) → All Seen w → list_all is_visible w ≡ true
all_visible [] h = refl
all_visible (b ∷ w) h = and_from (is_visible b) (list_all is_visible w) (seen_only b (All-head Seen b w h)) (all_visible w (All-tail Seen b w h))

some_length : (w : List ℕ) → not (length w == 0) ≡ true → 0 < length w
some_length [] h = absurd (cc)
some_length (b ∷ w) h = omega arith

length_some : (w : List ℕ) → 0 < length w → not (length w == 0) ≡ true
length_some w h = ap not (ne_eqb (length w) 0 (λ e. omega (arith, h, e)))

pub name_found : (w : List ℕ) → is_name w ≡ true → IsName w
name_found w h = let p = and_parts (not (length w == 0)) (list_all is_visible w) h in record { some = some_length w p.0; visible = all_seen w p.1 }

pub name_only : (w : List ℕ) → IsName w → is_name w ≡ true
name_only w h = and_from (not (length w == 0)) (list_all is_visible w) (length_some w h.some) (all_visible w h.visible)

pub name_at_found : (w : List ℕ) (ws rest : Words) → name_at ws ≡ Some (w, rest) → IsName w × (ws ≡ w ∷ rest)
unfolding name_at
name_at_found w [] rest h = absurd (cc)
name_at_found w (v ∷ ws) rest h =
    let p = if_some (is_name v) (Some (pair_of v ws)) (w, rest) h in
    let same = same_pairs v w ws rest p.1 in
    (subst IsName same.0 (name_found v p.0), ap (λ z. z ∷ ws) same.0 ∙ ap (λ us. w ∷ us) same.1)

pub name_at_only : (w : List ℕ) (rest : Words) → IsName w → name_at (w ∷ rest) ≡ Some (w, rest)
unfolding name_at
name_at_only w rest h = if_true (is_name w) (Some (pair_of w rest)) None (name_only w h)

-- words
pub same_bytes : (v w : List ℕ) → bytes_eq v w ≡ true → v ≡ w
same_bytes v w h = (bytes_eq-Decides v w).0 h

pub bytes_same : (w : List ℕ) → bytes_eq w w ≡ true
bytes_same w = (bytes_eq-Decides w w).1 refl

pub word_at_found : (w : List ℕ) (ws rest : Words) → word_at w ws ≡ Some rest → ws ≡ w ∷ rest
unfolding word_at
word_at_found w [] rest h = absurd (cc)
word_at_found w (v ∷ ws) rest h =
    let p = if_some (bytes_eq v w) (Some ws) rest h in
    let same : ws ≡ rest = let e = p.1 in cc in
    ap (λ z. z ∷ ws) (same_bytes v w p.0) ∙ ap (λ us. w ∷ us) same

pub word_at_only : (w : List ℕ) (rest : Words) → word_at w (w ∷ rest) ≡ Some rest
unfolding word_at
word_at_only w rest = if_true (bytes_eq w w) (Some rest) None (bytes_same w)

choice_by : (one other v : List ℕ) (ws : Words) (a b c : Bool) (rest : Words) → bytes_eq v one ≡ a → bytes_eq v other ≡ b → cond a (Some (pair_of true ws)) (cond b (Some (pair_of false ws)) None) ≡ Some (c, rest) → v ∷ ws ≡ either_word one other c ∷ rest
choice_by one other v ws true b c rest e f h =
    let same = same_pairs true c ws rest h in
    ap (λ z. z ∷ ws) (same_bytes v one e ∙ ap (either_word one other) same.0) ∙ ap (λ us. either_word one other c ∷ us) same.1
choice_by one other v ws false true c rest e f h =
    let same = same_pairs false c ws rest h in
    ap (λ z. z ∷ ws) (same_bytes v other f ∙ ap (either_word one other) same.0) ∙ ap (λ us. either_word one other c ∷ us) same.1
choice_by one other v ws false false c rest e f h = absurd (cc)

pub choice_found : (one other : List ℕ) (c : Bool) (ws rest : Words) → choice_at one other ws ≡ Some (c, rest) → ws ≡ either_word one other c ∷ rest
unfolding choice_at
choice_found one other c [] rest h = absurd (cc)
choice_found one other c (v ∷ ws) rest h = choice_by one other v ws (bytes_eq v one) (bytes_eq v other) c rest refl refl h

pub choice_only : (one other : List ℕ) (c : Bool) (rest : Words) → bytes_eq other one ≡ false → choice_at one other (either_word one other c ∷ rest) ≡ Some (c, rest)
unfolding choice_at
choice_only one other true rest d = if_true (bytes_eq one one) (Some (pair_of true rest)) (cond (bytes_eq one other) (Some (pair_of false rest)) None) (bytes_same one)
choice_only one other false rest d =
    ap (λ b. cond b (Some (pair_of true rest)) (cond (bytes_eq other other) (Some (pair_of false rest)) None)) d
    ∙ if_true (bytes_eq other other) (Some (pair_of false rest)) None (bytes_same other)

pub done_found : {X : Type 0} (x y : X) (ws : Words) → done_at x ws ≡ Some y → (ws ≡ []) × (x ≡ y)
done_found x y [] h = (refl, let e : x ≡ y = cc in e)
done_found x y (w ∷ ws) h = absurd (cc)

-- positions
place_text : (days a b : ℕ) → b < days → week_and_day days (a * days + b) ≡ decimal (a + 1) ∷ decimal (b + 1) ∷ []
place_text days a b less = ap (λ q. decimal (q + 1) ∷ decimal ((a * days + b) % days + 1) ∷ []) (div-mul-add a days b less) ∙ ap (λ r. decimal (a + 1) ∷ decimal (r + 1) ∷ []) (mod-mul-add a days b less)

below_cells : (weeks days a b : ℕ) → a < weeks → b < days → a * days + b < weeks * days
below_cells weeks days a b la lb =
    let le : (a + 1) * days ≤ weeks * days = grind (arith, la) in
    let e : (a + 1) * days ≡ a * days + days = omega arith in
    omega (arith, le, e, lb)

-- a week and a day from 1 on write the position that they make
pub place_spelled : (weeks days i j : ℕ) → 1 ≤ i → i ≤ weeks → 1 ≤ j → j ≤ days → ((i - 1) * days + (j - 1) < weeks * days) × (decimal i ∷ decimal j ∷ [] ≡ week_and_day days ((i - 1) * days + (j - 1)))
place_spelled weeks days i j i_some i_few j_some j_few =
    let a = i - 1 in
    let b = j - 1 in
    let less : b < days = omega (arith, j_some, j_few) in
    let text : week_and_day days (a * days + b) ≡ decimal i ∷ decimal j ∷ [] =
    place_text days a b less ∙ ap (λ n. decimal n ∷ decimal (b + 1) ∷ []) (omega (arith, i_some)) ∙ ap (λ n. decimal i ∷ decimal n ∷ []) (omega (arith, j_some)) in
    (below_cells weeks days a b (omega (arith, i_some, i_few)) less, sym text)

pub place_found : (weeks days p : ℕ) (ws rest : Words) → place_at weeks days ws ≡ Some (p, rest) → (p < weeks * days) × (ws ≡ week_and_day days p ++ rest)
unfolding place_at
place_found weeks days p ws rest h =
    let week = bind_found (number_at 1 weeks ws) (λ week. number_at 1 days week.1 >>= (λ day. Some ((week.0 - 1) * days + (day.0 - 1), day.1))) (p, rest) h in
    let day = bind_found (number_at 1 days week.0.1) (λ day. Some ((week.0.0 - 1) * days + (day.0 - 1), day.1)) (p, rest) week.2 in
    let w = number_at_found 1 weeks week.0.0 ws week.0.1 week.1 in
    let d = number_at_found 1 days day.0.0 week.0.1 day.0.1 day.1 in
    let a = week.0.0 - 1 in
    let b = day.0.0 - 1 in
    let same = same_pairs (a * days + b) p day.0.1 rest day.2 in
    let s = place_spelled weeks days week.0.0 day.0.0 w.0 w.1 d.0 d.1 in (
      subst (λ n. n < weeks * days) same.0 s.0,
      w.2 ∙ ap (λ us. decimal week.0.0 ∷ us) d.2 ∙ ap (λ t. t ++ day.0.1) s.1 ∙ ap (λ n. week_and_day days n ++ day.0.1) same.0 ∙ ap (λ us. week_and_day days p ++ us) same.1,
    )

pub back_to : (days p : ℕ) → (p / days + 1 - 1) * days + (p % days + 1 - 1) ≡ p
back_to days p =
    let e : p / days + 1 - 1 ≡ p / days = omega arith in
    let f : p % days + 1 - 1 ≡ p % days = omega arith in
    ap (λ a. a * days + (p % days + 1 - 1)) e ∙ ap (λ b. p / days * days + b) f ∙ div-add-mod' p days

some_days : (weeks days p : ℕ) → p < weeks * days → 1 ≤ days
some_days weeks zero p h = let e : weeks * zero ≡ 0 = omega arith in absurd (omega (arith, h, e))
some_days weeks (suc days) p h = omega arith

-- the week and the day of a position are numbers in their ranges
pub place_within : (weeks days p : ℕ) → p < weeks * days → (p / days < weeks) × (p % days < days)
place_within weeks days p less =
    let some : 0 < days = some_days weeks days p less in
    ((div-lt_iff_lt-mul {k = days} {x = p} {y = weeks} some).1 less, omega (arith, some))

pub place_only : (weeks days p : ℕ) (rest : Words) → weeks < 10 ^ 19 → days < 10 ^ 19 → p < weeks * days → place_at weeks days (week_and_day days p ++ rest) ≡ Some (p, rest)
unfolding place_at
place_only weeks days p rest some few less =
    let a = p / days in
    let b = p % days in
    let in' = place_within weeks days p less in
    let la : a < weeks = in'.0 in
    let lb : b < days = in'.1 in
    let back : (a + 1 - 1) * days + (b + 1 - 1) ≡ p = back_to days p in
    bind_only (number_at 1 weeks (week_and_day days p ++ rest)) (λ week. number_at 1 days week.1 >>= (λ day. Some ((week.0 - 1) * days + (day.0 - 1), day.1))) (a + 1, decimal (b + 1) ∷ rest) (Some (p, rest))
    (number_at_only 1 weeks (a + 1) (decimal (b + 1) ∷ rest) (omega arith) (omega (arith, la)) some)
    (bind_only (number_at 1 days (decimal (b + 1) ∷ rest)) (λ day. Some ((a + 1 - 1) * days + (day.0 - 1), day.1)) (b + 1, rest) (Some (p, rest))
    (number_at_only 1 days (b + 1) rest (omega arith) (omega (arith, lb)) few)
    (ap (λ n. Some (pair_of n rest)) back))

-- lists of rules
abbrev pub Ascend : ℕ → ℕ → List ℕ → Type 0
Ascend last high [] = Unit {0}
Ascend last high (n ∷ R) = (last + 1 ≤ n) × (n ≤ high) × Ascend n high R

abbrev FrontFound : ℕ → ℕ → Words → List ℕ × Words → Type 0
FrontFound high last ws r = (ws ≡ numbers r.0 ++ r.1) × Ascend last high r.0

front_found : (high last : ℕ) (w : List ℕ) (ws : Words) (o : Option ℕ) → number_in (last + 1) high w ≡ o → ((n : ℕ) → FrontFound high n ws (rules_front high n ws)) → FrontFound high last (w ∷ ws) (front_onto o (λ n. rules_front high n ws) (w ∷ ws))
front_found high last w ws None e rest = (refl, tt)
front_found high last w ws (Some n) e rest =
    let f = number_found (last + 1) high w n e in
    let r = rest n in
    (ap (λ z. z ∷ ws) f.2 ∙ ap (λ us. decimal n ∷ us) r.0, (f.0, f.1, r.1))

pub rules_found_by : (high last : ℕ) (ws : Words) → FrontFound high last ws (rules_front high last ws)
rules_found_by high last [] = (refl, tt)
rules_found_by high last (w ∷ ws) = front_found high last w ws (number_in (last + 1) high w) refl (λ n. rules_found_by high n ws)

-- nothing more, or a word that is no number
abbrev pub Stops : Words → Type 0
Stops [] = Unit {0}
Stops (w ∷ ws) = (low high : ℕ) → number_in low high w ≡ None

pub rules_only_by : (high last : ℕ) (R : List ℕ) (rest : Words) → high < 10 ^ 19 → Ascend last high R → Stops rest → rules_front high last (numbers R ++ rest) ≡ (R, rest)
rules_only_by high last [] [] small a s = refl
rules_only_by high last [] (w ∷ ws) small a s = ap (λ o. front_onto o (λ n. rules_front high n ws) (w ∷ ws)) (s (last + 1) high)
rules_only_by high last (n ∷ R) rest small a s =
    ap (λ o. front_onto o (λ m. rules_front high m (numbers R ++ rest)) (decimal n ∷ (numbers R ++ rest))) (number_only (last + 1) high n a.0 a.1 small)
    ∙ ap (λ r. (n ∷ r.0, r.1)) (rules_only_by high n R rest small a.2 s)

rise : (last high : ℕ) (R : List ℕ) → Ascend last high R → RisesFrom (last + 1) R
rise last high [] a = tt
rise last high (n ∷ R) a = (a.0, rise n high R a.2)

in_range : (last high : ℕ) (R : List ℕ) → Ascend last high R → All (λ k. (0 < k) × (k ≤ high)) R
in_range last high [] a = All-nil (λ k. (0 < k) × (k ≤ high))
in_range last high (n ∷ R) a = All-cons (λ k. (0 < k) × (k ≤ high)) n R (omega (arith, a.0), a.1) (in_range n high R a.2)

ascend_by : (last high : ℕ) (R : List ℕ) → RisesFrom (last + 1) R → All (λ k. (0 < k) × (k ≤ high)) R → Ascend last high R
ascend_by last high [] up in' = tt
ascend_by last high (n ∷ R) up in' =
    (up.0, (All-head (λ k. (0 < k) × (k ≤ high)) n R in').1, ascend_by n high R up.1 (All-tail (λ k. (0 < k) × (k ≤ high)) n R in'))

pub rules_found : (high : ℕ) (ws : Words) → (ws ≡ numbers (rules_at high ws).0 ++ (rules_at high ws).1) × Ascends high (rules_at high ws).0
unfolding rules_at
rules_found high ws =
    let f = rules_found_by high 0 ws in
    let R = (rules_front high 0 ws).0 in
    (f.0, (increasing 1 R (rise 0 high R f.1), in_range 0 high R f.1))

pub ascend : (high : ℕ) (R : List ℕ) → Ascends high R → Ascend 0 high R
ascend high R h = ascend_by 0 high R (rises 1 R (λ some. (h.1 0 0 some).0) h.0) h.1

pub rules_only : (high : ℕ) (R : List ℕ) (rest : Words) → high < 10 ^ 19 → Ascends high R → Stops rest → rules_at high (numbers R ++ rest) ≡ (R, rest)
unfolding rules_at
rules_only high R rest small are stops = rules_only_by high 0 R rest small (ascend high R are) stops

-- weights
triple_by : (j g : ℕ) (d n v : List ℕ) (o : Option ℕ) (b : Bool) (u : Option ℤ) (e : NamedWeight) → number_in 1 j d ≡ o → is_name n ≡ b → value_in g v ≡ u → weight_from o n b u ≡ Some e → (d ∷ n ∷ v ∷ [] ≡ weight_fields e) × IsNamedWeight j g e
triple_by j g d n v None b u e p q r h = absurd (cc)
triple_by j g d n v (Some k) false u e p q r h = absurd (cc)
triple_by j g d n v (Some k) true None e p q r h = absurd (cc)
triple_by j g d n v (Some k) true (Some z) e p q r h =
    let made : NamedWeight = record { day = k; name = n; value = z } in
    let same : made ≡ e = cc in
    let f = number_found 1 j d k p in
    let q' = value_found g v z r in
    let name = name_found n q in
    let there : (d ∷ n ∷ v ∷ [] ≡ weight_fields made) × IsNamedWeight j g made = (
      ap (λ z. z ∷ n ∷ v ∷ []) f.2 ∙ ap (λ z. decimal k ∷ n ∷ z ∷ []) q'.0,
      ((f.0, f.1), name, q'.1),
    ) in
    subst (λ (w : NamedWeight). (d ∷ n ∷ v ∷ [] ≡ weight_fields w) × IsNamedWeight j g w) same there

triple_only : (j g : ℕ) (e : NamedWeight) → j < 10 ^ 19 → (1 ≤ g) × (g < 10 ^ 19) → IsNamedWeight j g e → weight_of_words j g (decimal e.day) e.name (signed_decimal e.value) ≡ Some e
triple_only j g e few some h =
    ap (λ o. weight_from o e.name (is_name e.name) (value_in g (signed_decimal e.value))) (number_only 1 j e.day h.0.0 h.0.1 few)
    ∙ ap (λ b. weight_from (Some e.day) e.name b (value_in g (signed_decimal e.value))) (name_only e.name h.1)
    ∙ ap (λ u. weight_from (Some e.day) e.name true u) (value_only g e.value some.0 some.1 h.2)

pub weights_found : (j g : ℕ) (ws : Words) (y : List NamedWeight) → weights_at j g ws ≡ Some y → (ws ≡ flat_map weight_fields y) × All (IsNamedWeight j g) y
weights_found j g [] y h = let e : [] ≡ y = cc in subst (λ z. ([] ≡ flat_map weight_fields z) × All (IsNamedWeight j g) z) e (refl, All-nil (IsNamedWeight j g))
weights_found j g (d ∷ []) y h = absurd (cc)
weights_found j g (d ∷ n ∷ []) y h = absurd (cc)
weights_found j g (d ∷ n ∷ v ∷ ws) y h =
    let e = bind_found (weight_of_words j g d n v) (λ e. weights_at j g ws >>= (λ z. Some (e ∷ z))) y h in
    let z = bind_found (weights_at j g ws) (λ z. Some (e.0 ∷ z)) y e.2 in
    let t = triple_by j g d n v (number_in 1 j d) (is_name n) (value_in g v) e.0 refl refl refl e.1 in
    let r = weights_found j g ws z.0 z.1 in
    let same : e.0 ∷ z.0 ≡ y = let s = z.2 in cc in
    subst (λ u. (d ∷ n ∷ v ∷ ws ≡ flat_map weight_fields u) × All (IsNamedWeight j g) u) same
    (ap (λ us. us ++ ws) t.0 ∙ ap (λ us. weight_fields e.0 ++ us) r.0, All-cons (IsNamedWeight j g) e.0 z.0 t.1 r.1)

pub weights_only : (j g : ℕ) (y : List NamedWeight) → j < 10 ^ 19 → (1 ≤ g) × (g < 10 ^ 19) → All (IsNamedWeight j g) y → weights_at j g (flat_map weight_fields y) ≡ Some y
weights_only j g [] few some h = refl
weights_only j g (e ∷ y) few some h =
    bind_only (weight_of_words j g (decimal e.day) e.name (signed_decimal e.value)) (λ a. weights_at j g (flat_map weight_fields y) >>= (λ z. Some (a ∷ z))) e (Some (e ∷ y))
    (triple_only j g e few some (All-head (IsNamedWeight j g) e y h))
    (bind_only (weights_at j g (flat_map weight_fields y)) (λ z. Some (e ∷ z)) y (Some (e ∷ y)) (weights_only j g y few some (All-tail (IsNamedWeight j g) e y h)) refl)

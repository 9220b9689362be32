-- Walks over symbols that know how long the last symbol, and the last work or days off, have lasted.
use Rattle.std.proofs.Common.{◌≡◌, ℕ, zero, suc, ◌+◌, ◌<◌, ◌≤◌, List, [], ◌∷◌, ◌++◌, length, Bool, true, false, not, cond, ◌&&◌, ◌||◌, eqb, ltb, leb, refl, ap, sym, subst, ◌∙◌, arith}
use Rattle.std.specs.List.{AllByRecursion}
use Rattle.std.proofs.lemmas.Bool.{and_parts, and_from, leb-true}
use Rattle.std.proofs.lemmas.Bool.Decides.{Decides-eqb}
use Rattle.rwsp_terms.specs.Window.{InClass, TooLong, TooShort}
use Rattle.rwsp_terms.specs.declared.data.Symbol.{Symbol}
use Rattle.rwsp_terms.specs.declared.data.Class.{Class}
use Rattle.rwsp_terms.specs.declared.data.Class.TheVariants.{Shift, Off, Work}
use Rattle.rwsp_terms.proofs.Elements.{all_to}

-- where a walk stands: the last symbol, the days since it began, and the days since the work or the days off began
pub record Stand : Type 0 where
  pub symbol : ℕ
  pub same : ℕ
  pub stretch : ℕ

abbrev pub works : ℕ → Bool
works zero = false
works (suc x) = true

-- both are shifts, or both days off
abbrev pub alike : ℕ → ℕ → Bool
alike x y = cond (works x) (works y) (not (works y))

abbrev pub most_same : ℕ → ℕ
most_same zero = 4
most_same (suc zero) = 7
most_same (suc (suc zero)) = 6
most_same (suc (suc (suc zero))) = 5
most_same (suc (suc (suc (suc x)))) = 0

abbrev pub least_stretch : Bool → ℕ
least_stretch false = 2
least_stretch true = 4

abbrev pub most_stretch : Bool → ℕ
most_stretch false = 4
most_stretch true = 7

abbrev pub step : Stand → ℕ → Stand
step e y = record {
  symbol = y;
  same = cond (eqb y e.symbol) (e.same + 1) 1;
  stretch = cond (alike e.symbol y) (e.stretch + 1) 1;
}

-- the symbol may follow: no block ends early or lasts too long, and no shift follows a later one
abbrev pub may_follow : Stand → ℕ → Bool
may_follow e y =
    (eqb y e.symbol || leb 2 e.same)
    && (leb (step e y).same (most_same y)
    && ((alike e.symbol y || leb (least_stretch (works e.symbol)) e.stretch)
    && (leb (step e y).stretch (most_stretch (works y))
    && (not (works y && ltb y e.symbol) && leb y 3))))

abbrev pub walks : Stand → List Symbol → Bool
walks e [] = true
walks e (y ∷ u) = may_follow e y.number && walks (step e y.number) u

abbrev pub stand_after : Stand → List Symbol → Stand
stand_after e [] = e
stand_after e (y ∷ u) = stand_after (step e y.number) u

pub stand_after-append : (e : Stand) (u v : List Symbol) → stand_after e (u ++ v) ≡ stand_after (stand_after e u) v
stand_after-append e [] v = refl
stand_after-append e (y ∷ u) v = stand_after-append (step e y.number) u v

pub walks_both : (e : Stand) (u v : List Symbol) → walks e u ≡ true → walks (stand_after e u) v ≡ true → walks e (u ++ v) ≡ true
walks_both e [] v h k = k
walks_both e (y ∷ u) v h k =
    let p = and_parts (may_follow e y.number) (walks (step e y.number) u) h in
    and_from (may_follow e y.number) (walks (step e y.number) (u ++ v)) p.0 (walks_both (step e y.number) u v p.1 k)

pub walks_front : (e : Stand) (u v : List Symbol) → walks e (u ++ v) ≡ true → walks e u ≡ true
walks_front e [] v h = refl
walks_front e (y ∷ u) v h =
    let p = and_parts (may_follow e y.number) (walks (step e y.number) (u ++ v)) h in
    and_from (may_follow e y.number) (walks (step e y.number) u) p.0 (walks_front (step e y.number) u v p.1)

pub walks_back : (e : Stand) (u v : List Symbol) → walks e (u ++ v) ≡ true → walks (stand_after e u) v ≡ true
walks_back e [] v h = h
walks_back e (y ∷ u) v h =
    let p = and_parts (may_follow e y.number) (walks (step e y.number) (u ++ v)) h in
    walks_back (step e y.number) u v p.1

-- what it means that a symbol may follow
pub record Follows (e : Stand) (y : ℕ) : Type 0 where
  pub ended : eqb y e.symbol ≡ false → 2 ≤ e.same
  pub short : (step e y).same ≤ most_same y
  pub done : alike e.symbol y ≡ false → least_stretch (works e.symbol) ≤ e.stretch
  pub few : (step e y).stretch ≤ most_stretch (works y)
  pub forward : (works y && ltb y e.symbol) ≡ false
  pub known : y ≤ 3

or_rest : (a b : Bool) → (a || b) ≡ true → a ≡ false → b ≡ true
or_rest true b h f = absurd (cc)
or_rest false b h f = h

not_true : (a : Bool) → not a ≡ true → a ≡ false
not_true true h = absurd (cc)
not_true false h = refl

pub follows_from : (e : Stand) (y : ℕ) → may_follow e y ≡ true → Follows e y
follows_from e y h =
    let t2 = leb (step e y).same (most_same y) in
    let t3 = alike e.symbol y || leb (least_stretch (works e.symbol)) e.stretch in
    let t4 = leb (step e y).stretch (most_stretch (works y)) in
    let t5 = not (works y && ltb y e.symbol) in
    let p1 = and_parts (eqb y e.symbol || leb 2 e.same) (t2 && (t3 && (t4 && (t5 && leb y 3)))) h in
    let p2 = and_parts t2 (t3 && (t4 && (t5 && leb y 3))) p1.1 in
    let p3 = and_parts t3 (t4 && (t5 && leb y 3)) p2.1 in
    let p4 = and_parts t4 (t5 && leb y 3) p3.1 in
    let p5 = and_parts t5 (leb y 3) p4.1 in
    record {
      ended = λ f. leb-true 2 e.same (or_rest (eqb y e.symbol) (leb 2 e.same) p1.0 f);
      short = leb-true (step e y).same (most_same y) p2.0;
      done = λ f. leb-true (least_stretch (works e.symbol)) e.stretch (or_rest (alike e.symbol y) (leb (least_stretch (works e.symbol)) e.stretch) p3.0 f);
      few = leb-true (step e y).stretch (most_stretch (works y)) p4.0;
      forward = not_true (works y && ltb y e.symbol) p5.0;
      known = leb-true y 3 p5.1;
    }

-- classes

abbrev pub in_class : Class → ℕ → Bool
in_class (Shift x) y = eqb y x.number
in_class Off y = not (works y)
in_class Work y = works y

-- the days since the class's block began
abbrev pub age : Class → Stand → ℕ
age (Shift x) e = e.same
age Off e = e.stretch
age Work e = e.stretch

abbrev pub least_of : Class → ℕ
least_of (Shift x) = 2
least_of Off = 2
least_of Work = 4

abbrev pub greatest_of : Class → ℕ
greatest_of (Shift x) = most_same x.number
greatest_of Off = 4
greatest_of Work = 7

true_in : (c : Class) (y : Symbol) → InClass c y → in_class c y.number ≡ true
true_in (Shift x) y h = (Decides-eqb y.number x.number).1 (ap (λ (z : Symbol). z.number) h)
true_in Off y h = ap (λ n. not (works n)) h
true_in Work y h = elim y.number as (λ n. 0 < n → works n ≡ true) [ zero ↦ λ l. absurd (omega (arith, l)) | suc n ↦ λ _. refl ] h

in_true : (c : Class) (y : Symbol) → in_class c y.number ≡ true → InClass c y
in_true (Shift x) y h = ap (λ n. let z : Symbol = record { number = n } in z) ((Decides-eqb y.number x.number).0 h)
in_true Off y h = elim y.number as (λ n. not (works n) ≡ true → n ≡ 0) [ zero ↦ λ _. refl | suc n ↦ λ l. absurd (cc) ] h
in_true Work y h = elim y.number as (λ n. works n ≡ true → 0 < n) [ zero ↦ λ l. absurd (cc) | suc n ↦ λ _. omega arith ] h

false_out : (c : Class) (y : Symbol) → ¬ InClass c y → in_class c y.number ≡ false
false_out c y h = elim (in_class c y.number) as (λ (b : Bool). in_class c y.number ≡ b → in_class c y.number ≡ false) [ true ↦ λ t. absurd (h (in_true c y t)) | false ↦ λ f. f ] refl

both_work : (a b : Bool) → a ≡ true → b ≡ true → cond a b (not b) ≡ true
both_work a b p q = ap (λ x. cond x b (not b)) p ∙ q

both_off : (a b : Bool) → not a ≡ true → not b ≡ true → cond a b (not b) ≡ true
both_off true b p q = absurd (cc)
both_off false b p q = q

off_work : (a b : Bool) → a ≡ false → b ≡ true → cond a b (not b) ≡ false
off_work a b p q = ap (λ x. cond x b (not b)) p ∙ ap not q

work_off : (a b : Bool) → not a ≡ false → not b ≡ true → cond a b (not b) ≡ false
work_off true true p q = absurd (cc)
work_off true false p q = refl
work_off false b p q = absurd (cc)

longer : (b : Bool) (n : ℕ) → b ≡ true → cond b (n + 1) 1 ≡ n + 1
longer b n h = ap (λ x. cond x (n + 1) 1) h

anew : (b : Bool) (n : ℕ) → b ≡ false → cond b (n + 1) 1 ≡ 1
anew b n h = ap (λ x. cond x (n + 1) 1) h

same_eqb : (x y z : ℕ) → eqb x z ≡ true → eqb y z ≡ true → eqb y x ≡ true
same_eqb x y z h k = (Decides-eqb y x).1 ((Decides-eqb y z).0 k ∙ sym ((Decides-eqb x z).0 h))

not_eqb : (x y z : ℕ) → eqb x z ≡ false → eqb y z ≡ true → eqb y x ≡ false
not_eqb x y z h k =
    elim (eqb y x) as (λ (b : Bool). eqb y x ≡ b → eqb y x ≡ false) [
      | true ↦ λ t. let e : eqb x z ≡ true = (Decides-eqb x z).1 (sym ((Decides-eqb y x).0 t) ∙ (Decides-eqb y z).0 k) in absurd (cc)
      | false ↦ λ f. f
    ] refl

pub age_within : (c : Class) (e : Stand) (y : ℕ) → in_class c e.symbol ≡ true → in_class c y ≡ true → age c (step e y) ≡ age c e + 1
age_within (Shift x) e y h k = longer (eqb y e.symbol) e.same (same_eqb e.symbol y x.number h k)
age_within Off e y h k = longer (alike e.symbol y) e.stretch (both_off (works e.symbol) (works y) h k)
age_within Work e y h k = longer (alike e.symbol y) e.stretch (both_work (works e.symbol) (works y) h k)

pub age_at_start : (c : Class) (e : Stand) (y : ℕ) → in_class c e.symbol ≡ false → in_class c y ≡ true → age c (step e y) ≡ 1
age_at_start (Shift x) e y h k = anew (eqb y e.symbol) e.same (not_eqb e.symbol y x.number h k)
age_at_start Off e y h k = anew (alike e.symbol y) e.stretch (work_off (works e.symbol) (works y) h k)
age_at_start Work e y h k = anew (alike e.symbol y) e.stretch (off_work (works e.symbol) (works y) h k)

pub age_below : (c : Class) (e : Stand) (y : ℕ) → in_class c y ≡ true → Follows e y → age c (step e y) ≤ greatest_of c
age_below (Shift x) e y k f = subst (λ n. (step e y).same ≤ most_same n) ((Decides-eqb y x.number).0 k) f.short
age_below Off e y k f = subst (λ b. (step e y).stretch ≤ most_stretch b) (not_true (works y) k) f.few
age_below Work e y k f = subst (λ b. (step e y).stretch ≤ most_stretch b) k f.few

differs : (x y z : ℕ) → eqb x z ≡ true → eqb y z ≡ false → eqb y x ≡ false
differs x y z h k =
    elim (eqb y x) as (λ (b : Bool). eqb y x ≡ b → eqb y x ≡ false) [
      | true ↦ λ t. let e : eqb y z ≡ true = (Decides-eqb y z).1 ((Decides-eqb y x).0 t ∙ (Decides-eqb x z).0 h) in absurd (cc)
      | false ↦ λ f. f
    ] refl

off_then_work : (a b : Bool) → not a ≡ true → not b ≡ false → cond a b (not b) ≡ false
off_then_work true b p q = absurd (cc)
off_then_work false b p q = q

work_then_off : (a b : Bool) → a ≡ true → b ≡ false → cond a b (not b) ≡ false
work_then_off a b p q = ap (λ x. cond x b (not b)) p ∙ q

pub age_at_end : (c : Class) (e : Stand) (y : ℕ) → in_class c e.symbol ≡ true → in_class c y ≡ false → Follows e y → least_of c ≤ age c e
age_at_end (Shift x) e y h k f = f.ended (differs e.symbol y x.number h k)
age_at_end Off e y h k f = subst (λ b. least_stretch b ≤ e.stretch) (not_true (works e.symbol) h) (f.done (off_then_work (works e.symbol) (works y) h k))
age_at_end Work e y h k f = subst (λ b. least_stretch b ≤ e.stretch) h (f.done (work_then_off (works e.symbol) (works y) h k))

-- the age after one symbol of the class is at least one
age_some : (c : Class) (e : Stand) (y : ℕ) → in_class c y ≡ true → 1 ≤ age c (step e y)
age_some c e y k =
    elim (in_class c e.symbol) as (λ (b : Bool). in_class c e.symbol ≡ b → 1 ≤ age c (step e y)) [
      | true ↦ λ t. let same = age_within c e y t k in omega arith
      | false ↦ λ f. let same = age_at_start c e y f k in omega arith
    ] refl

stays : (c : Class) (e : Stand) (u : List Symbol) → walks e u ≡ true → in_class c e.symbol ≡ true → age c e ≤ greatest_of c → AllByRecursion (InClass c) u → age c e + length u ≤ greatest_of c
stays c e [] w h le all = omega (arith, le)
stays c e (y ∷ u) w h le all =
    let p = and_parts (may_follow e y.number) (walks (step e y.number) u) w in
    let k = true_in c y all.0 in
    let below = age_below c e y.number k (follows_from e y.number p.0) in
    let rest = stays c (step e y.number) u p.1 k below all.1 in
    let same = age_within c e y.number h k in
    omega arith

pub never_too_long : (c : Class) (e : Stand) (u : List Symbol) → walks e u ≡ true → TooLong c (greatest_of c) u → ⊥
never_too_long c e [] w bad = let long = bad.long in absurd (omega (arith, long))
never_too_long c e (y ∷ u) w bad =
    let p = and_parts (may_follow e y.number) (walks (step e y.number) u) w in
    let all = all_to (InClass c) (y ∷ u) bad.within in
    let k = true_in c y all.0 in
    let below = age_below c e y.number k (follows_from e y.number p.0) in
    let rest = stays c (step e y.number) u p.1 k below all.1 in
    let some = age_some c e y.number k in
    let long = bad.long in
    omega arith

-- where a walk stands after a part of a block, it is still in the block
runs : (c : Class) (e : Stand) (u v : List Symbol) → walks e (u ++ v) ≡ true → in_class c e.symbol ≡ true → AllByRecursion (InClass c) u → (f : Stand) × (walks f v ≡ true) × (in_class c f.symbol ≡ true) × (age c f ≡ age c e + length u)
runs c e [] v w h all = (e, w, h, omega arith)
runs c e (y ∷ u) v w h all =
    let p = and_parts (may_follow e y.number) (walks (step e y.number) (u ++ v)) w in
    let k = true_in c y all.0 in
    let rest = runs c (step e y.number) u v p.1 k all.1 in
    let same = age_within c e y.number h k in
    let more = rest.3 in
    (rest.0, rest.1, rest.2, omega arith)

block_lasts : (c : Class) (e : Stand) (before : Symbol) (block : List Symbol) (after : Symbol) → walks e (before ∷ block ++ after ∷ []) ≡ true → ¬ InClass c before → AllByRecursion (InClass c) block → ¬ InClass c after → 0 < length block → least_of c ≤ length block
block_lasts c e before [] after w starts all ends some = absurd (omega (arith, some))
block_lasts c e before (y ∷ u) after w starts all ends some =
    let p = and_parts (may_follow e before.number) (walks (step e before.number) ((y ∷ u) ++ after ∷ [])) w in
    let f = step e before.number in
    let q = and_parts (may_follow f y.number) (walks (step f y.number) (u ++ after ∷ [])) p.1 in
    let k = true_in c y all.0 in
    let first = age_at_start c f y.number (false_out c before starts) k in
    let last = runs c (step f y.number) u (after ∷ []) q.1 k all.1 in
    let r = and_parts (may_follow last.0 after.number) true last.1 in
    let least = age_at_end c last.0 after.number last.2 (false_out c after ends) (follows_from last.0 after.number r.0) in
    let aged = last.3 in
    omega arith

pub never_too_short : (c : Class) (e : Stand) (u : List Symbol) → walks e u ≡ true → TooShort c (least_of c) u → ⊥
never_too_short c e u w bad =
    let lasts = block_lasts c e bad.before bad.block bad.after (subst (λ x. walks e x ≡ true) bad.whole w) bad.starts (all_to (InClass c) bad.block bad.within) bad.ends bad.some in
    let few = bad.few in
    omega arith

-- what comes behind a symbol
pub second_follows : (e : Stand) (x y : Symbol) → walks e (x ∷ y ∷ []) ≡ true → Follows (step e x.number) y.number
second_follows e x y w =
    let p = and_parts (may_follow e x.number) (walks (step e x.number) (y ∷ [])) w in
    let q = and_parts (may_follow (step e x.number) y.number) true p.1 in
    follows_from (step e x.number) y.number q.0

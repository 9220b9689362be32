-- What the states of the monitors of blocks say of words: how many days of the class they end with.
use Rattle.std.proofs.Common.{◌≡◌, ℕ, zero, suc, ◌+◌, ◌<◌, ◌≤◌, List, [], ◌∷◌, ◌++◌, length, Bool, true, false, cond, refl, ap, sym, ◌∙◌, inl, inr, subst, arith}
use Rattle.std.specs.Prelude.{◌↔◌, ◌&&◌, nat_lt, nat_le}
use Rattle.std.specs.List.{AllByRecursion}
use Rattle.std.proofs.lemmas.Bool.{cases_Bool, cases_lt, cond-true, cond-false, ltb-true, ltb-false, lt-ltb, le-ltb, leb-true, le-leb, eqb-true, eq-eqb}
use Rattle.rwsp_terms.specs.declared.data.Symbol.{Symbol}
use Rattle.rwsp_terms.specs.declared.data.Class.{Class}
use Rattle.rwsp_terms.specs.declared.data.Class.TheVariants.{Shift, Off, Work}
use Rattle.rwsp_terms.specs.declared.data.Rule.TheVariants as TheRules
use Rattle.rwsp_terms.specs.Instance.{Instance, bounds, symbol_numbered}
use Rattle.rwsp_terms.specs.Window.{Bad, InClass, TooLong, TooShort, HasNoBadPart}
use Rattle.rwsp_terms.proofs.Elements.{all_from, all_to}
use Rattle.clean_words.specs.declared.monitor.Monitor.TheVariants.{Most, Least}
use Rattle.clean_words.specs.Blocks.{in_class, longer}
use Rattle.clean_words.specs.Monitors.{watched_least, Watches}
use Rattle.clean_words.proofs.WordEnds.{Kind, At, Then, Thens, EndsWith, ends_as, ends_at, ends_none, ends_then, thens_to, thens_from, both_hold}
use Rattle.clean_words.proofs.Watching.{Tracks, watches}

-- the test of a class
class_is : (c : Class) (x : Symbol) → (in_class c x ≡ true) ↔ InClass c x
class_is (Shift y) x = (λ e. ap symbol_numbered (eqb-true x.number y.number e), λ e. eq-eqb x.number y.number (ap (λ (z : Symbol). z.number) e))
class_is Off x = (λ e. eqb-true x.number 0 e, λ e. eq-eqb x.number 0 e)
class_is Work x = (λ e. ltb-true 0 x.number e, λ h. lt-ltb 0 x.number h)

abbrev Outside : Class → Symbol → Type 0
Outside c x = InClass c x → ⊥

-- words of so many days of the class, and those behind a day outside
abbrev Days : Class → ℕ → Kind
Days c = Thens (At (λ q. Unit {0})) (InClass c)

abbrev Behind : Class → ℕ → Kind
Behind c = Thens (Then (At (λ q. Unit {0})) (Outside c)) (InClass c)

-- blocks that are too long: a state is as many days of the class as the word ends with

too_long : (c : Class) (greatest p : ℕ) (u : List Symbol) → Days c (suc greatest) p u ↔ TooLong c greatest u
too_long c g p u = (
  λ h.
      let k = thens_to (At (λ q. Unit {0})) (InClass c) (suc g) p u h in
      let same : u ≡ k.1 = k.2 ∙ ap (λ f. f ++ k.1) k.3.0 in
      record { long = omega (arith, ap length same, k.4); within = all_from (InClass c) u (subst (AllByRecursion (InClass c)) (sym same) k.5) },
  λ bad. thens_from (At (λ q. Unit {0})) (InClass c) (suc g) p u ([], u, refl, (refl, tt), omega (arith, bad.long), all_to (InClass c) u bad.within),
)

abbrev HasAtMost : Class → ℕ → ℕ → List Symbol → Type 0
HasAtMost c s p w = (n : ℕ) → EndsWith (Days c n) p w ↔ (n ≤ s)

most_tracks : (P : Instance) (c : Class) → Tracks P (TheRules.Most c) (Most c (bounds P c).greatest) (λ s p w. HasAtMost c s p w)
most_tracks P c = record {
  begins = begins;
  goes = λ p s w x tells n. goes p s w x tells n (in_class c x) (class_is c x);
  stops = stops;
}
  where
    begins : (p n : ℕ) → EndsWith (Days c n) p [] ↔ (n ≤ 0)
    begins p zero = (λ h. omega arith, λ h. (ends_at (λ q. Unit {0}) p []).1 tt)
    begins p (suc n) = (λ h. absurd (ends_none (Days c n) (InClass c) p h), λ h. absurd (omega (arith, h)))

    goes : (p s : ℕ) (w : List Symbol) (x : Symbol) → HasAtMost c s p w → (n : ℕ) (b : Bool) → (b ≡ true) ↔ InClass c x → EndsWith (Days c n) p (w ++ x ∷ []) ↔ (n ≤ cond b (s + 1) 0)
    goes p s w x tells zero b is = (λ h. omega arith, λ h. (ends_at (λ q. Unit {0}) p (w ++ x ∷ [])).1 tt)
    goes p s w x tells (suc n) true is =
        let step = ends_then (Days c n) (InClass c) p w x in
        (λ h. let low = (tells n).0 (step.0 h).0 in omega (arith, low), λ h. step.1 ((tells n).1 (omega (arith, h)), is.0 refl))
    goes p s w x tells (suc n) false is =
        let step = ends_then (Days c n) (InClass c) p w x in
        (λ h. let fails : false ≡ true = is.1 (step.0 h).1 in absurd (cc), λ h. absurd (omega (arith, h)))

    stops : (p s : ℕ) (w : List Symbol) (x : Symbol) → HasAtMost c s p w → ((in_class c x && nat_le (bounds P c).greatest s) ≡ true) ↔ EndsWith (Bad P (TheRules.Most c)) p (w ++ x ∷ [])
    stops p s w x tells =
        let g = (bounds P c).greatest in
        let both = both_hold (in_class c x) (nat_le g s) (class_is c x) (λ e. leb-true g s e, λ h. le-leb g s h) in
        let step = ends_then (Days c g) (InClass c) p w x in
        let long = ends_as (Days c (suc g)) (λ q u. TooLong c g u) (too_long c g) p (w ++ x ∷ []) in (
          λ e. let h = both.0 e in long.0 (step.1 ((tells g).1 h.1, h.0)),
          λ h. let k = step.0 (long.1 h) in both.1 (k.1, (tells g).0 k.0),
        )

pub most_watches : (P : Instance) (c : Class) (greatest : ℕ) → greatest ≡ (bounds P c).greatest → Watches (HasNoBadPart P (TheRules.Most c)) (Most c greatest)
most_watches P c greatest is =
    subst (λ n. Watches (HasNoBadPart P (TheRules.Most c)) (Most c n)) (sym is)
    (watches P (TheRules.Most c) (Most c (bounds P c).greatest) (λ s p w. HasAtMost c s p w) (most_tracks P c))

-- blocks that are too short: a state below the least is as many days as the word ends with behind a day outside

short_from : (c : Class) (L n p : ℕ) (u : List Symbol) → 0 < n → n < L → Then (Behind c n) (Outside c) p u → TooShort c L u
short_from c L n p u some few h =
    let k = thens_to (Then (At (λ q. Unit {0})) (Outside c)) (InClass c) n p h.0 h.3 in
    let front = k.3 in
    record {
      before = front.1;
      block = k.1;
      after = h.1;
      whole = h.2 ∙ ap (λ v. v ++ h.1 ∷ []) (k.2 ∙ ap (λ f. f ++ k.1) (front.2 ∙ ap (λ v. v ++ front.1 ∷ []) front.3.0));
      starts = front.4;
      within = all_from (InClass c) k.1 k.5;
      ends = h.4;
      some = omega (arith, some, k.4);
      few = omega (arith, few, k.4);
    }

short_to : (c : Class) (L p : ℕ) (u : List Symbol) → (bad : TooShort c L u) → Then (Behind c (length bad.block)) (Outside c) p u
short_to c L p u bad = (
  bad.before ∷ bad.block,
  bad.after,
  bad.whole,
  thens_from (Then (At (λ q. Unit {0})) (Outside c)) (InClass c) (length bad.block) p (bad.before ∷ bad.block)
      (bad.before ∷ [], bad.block, refl, ([], bad.before, refl, (refl, tt), bad.starts), refl, all_to (InClass c) bad.block bad.within),
  bad.ends,
)

-- lengths that are too short for the one bound are so for the other
abbrev AreAlike : ℕ → ℕ → Type 0
AreAlike least L = (n : ℕ) → 0 < n → (n < least) ↔ (n < L)

abbrev HasBehind : Class → ℕ → ℕ → ℕ → List Symbol → Type 0
HasBehind c least s p w = (n : ℕ) → n < least → EndsWith (Behind c n) p w ↔ (s ≡ n)

least_tracks : (P : Instance) (c : Class) (least : ℕ) → AreAlike least (bounds P c).least → Tracks P (TheRules.Least c) (Least c least) (λ s p w. HasBehind c least s p w)
least_tracks P c least alike = record {
  begins = begins;
  goes = λ p s w x tells n less. goes p s w x tells n less (in_class c x) (class_is c x);
  stops = λ p s w x tells. stops p s w x tells (in_class c x) (class_is c x);
}
  where
    begins : (p n : ℕ) → n < least → EndsWith (Behind c n) p [] ↔ (least ≡ n)
    begins p zero less = (λ h. absurd (ends_none (At (λ q. Unit {0})) (Outside c) p h), λ e. absurd (omega (arith, e, less)))
    begins p (suc n) less = (λ h. absurd (ends_none (Behind c n) (InClass c) p h), λ e. absurd (omega (arith, e, less)))

    -- one day more, counted up to the least length
    grows : (s n : ℕ) → suc n < least → (s ≡ n) ↔ (longer s least ≡ suc n)
    grows s n less = elim (cases_lt s least) [
      | inl low ↦ let e : longer s least ≡ s + 1 = cond-true (nat_lt s least) (s + 1) s (lt-ltb s least low) in (λ h. omega (arith, e, h), λ h. omega (arith, e, h))
      | inr high ↦ let e : longer s least ≡ s = cond-false (nat_lt s least) (s + 1) s (le-ltb s least high) in (λ h. absurd (omega (arith, h, high, less)), λ h. absurd (omega (arith, e, h, high, less)))
    ]

    some_more : (s : ℕ) → 0 < least → 0 < longer s least
    some_more s some = elim (cases_lt s least) [
      | inl low ↦ let e : longer s least ≡ s + 1 = cond-true (nat_lt s least) (s + 1) s (lt-ltb s least low) in omega (arith, e)
      | inr high ↦ let e : longer s least ≡ s = cond-false (nat_lt s least) (s + 1) s (le-ltb s least high) in omega (arith, e, high, some)
    ]

    goes : (p s : ℕ) (w : List Symbol) (x : Symbol) → HasBehind c least s p w → (n : ℕ) → n < least → (b : Bool) → (b ≡ true) ↔ InClass c x → EndsWith (Behind c n) p (w ++ x ∷ []) ↔ (cond b (longer s least) 0 ≡ n)
    goes p s w x tells zero less b is = by_class b is
      where
        by_class : (b : Bool) → (b ≡ true) ↔ InClass c x → EndsWith (Behind c 0) p (w ++ x ∷ []) ↔ (cond b (longer s least) 0 ≡ 0)
        by_class true is = (λ h. absurd (((ends_then (At (λ q. Unit {0})) (Outside c) p w x).0 h).1 (is.0 refl)), λ e. absurd (omega (arith, e, some_more s (omega (arith, less)))))
        by_class false is = (
          λ h. refl,
          λ e. (ends_then (At (λ q. Unit {0})) (Outside c) p w x).1 ((ends_at (λ q. Unit {0}) p w).1 tt, λ h. let fails : false ≡ true = is.1 h in absurd (cc)),
        )
    goes p s w x tells (suc n) less b is = by_class b is
      where
        by_class : (b : Bool) → (b ≡ true) ↔ InClass c x → EndsWith (Behind c (suc n)) p (w ++ x ∷ []) ↔ (cond b (longer s least) 0 ≡ suc n)
        by_class true is =
            let step = ends_then (Behind c n) (InClass c) p w x in
            let before = tells n (omega (arith, less)) in
            (λ h. (grows s n less).0 (before.0 (step.0 h).0), λ e. step.1 (before.1 ((grows s n less).1 e), is.0 refl))
        by_class false is = (λ h. let fails : false ≡ true = is.1 ((ends_then (Behind c n) (InClass c) p w x).0 h).1 in absurd (cc), λ e. absurd (omega (arith, e)))

    stops : (p s : ℕ) (w : List Symbol) (x : Symbol) → HasBehind c least s p w → (b : Bool) → (b ≡ true) ↔ InClass c x → (cond b false (nat_lt 0 s && nat_lt s least) ≡ true) ↔ EndsWith (Bad P (TheRules.Least c)) p (w ++ x ∷ [])
    stops p s w x tells true is = (λ e. let fails : false ≡ true = e in absurd (cc), λ h. absurd ((bad_end h).1 (is.0 refl)))
      where
        bad_end : (h : EndsWith (Bad P (TheRules.Least c)) p (w ++ x ∷ [])) → EndsWith (Behind c (length h.3.block)) p w × Outside c x
        bad_end h = (ends_then (Behind c (length h.3.block)) (Outside c) p w x).0 (h.0, h.1, h.2, short_to c (bounds P c).least (p + length h.0) h.1 h.3)
    stops p s w x tells false is = (
      λ e.
          let low = both.0 e in
          let h = (ends_then (Behind c s) (Outside c) p w x).1 ((tells s low.1).1 refl, outside) in
          (h.0, h.1, h.2, short_from c (bounds P c).least s (p + length h.0) h.1 low.0 ((alike s low.0).0 low.1) h.3),
      λ h.
          let n = length h.3.block in
          let low = (alike n h.3.some).1 h.3.few in
          let end = (ends_then (Behind c n) (Outside c) p w x).0 (h.0, h.1, h.2, short_to c (bounds P c).least (p + length h.0) h.1 h.3) in
          let same : s ≡ n = (tells n low).0 end.0 in
          both.1 (omega (arith, same, h.3.some), omega (arith, same, low)),
    )
      where
        outside : Outside c x
        outside h = let fails : false ≡ true = is.1 h in absurd (cc)

        both : ((nat_lt 0 s && nat_lt s least) ≡ true) ↔ ((0 < s) × (s < least))
        both = both_hold (nat_lt 0 s) (nat_lt s least) (λ e. ltb-true 0 s e, λ h. lt-ltb 0 s h) (λ e. ltb-true s least e, λ h. lt-ltb s least h)

watched_alike : (L : ℕ) → AreAlike (watched_least L) L
watched_alike L n some = elim (cases_Bool (nat_lt 1 L)) [
  | inl holds ↦ let same : watched_least L ≡ L = cond-true (nat_lt 1 L) L 0 holds in (λ h. omega (arith, h, same), λ h. omega (arith, h, same))
  | inr fails ↦
      let none : watched_least L ≡ 0 = cond-false (nat_lt 1 L) L 0 fails in
      let few = ltb-false 1 L fails in
      (λ h. absurd (omega (arith, h, none)), λ h. absurd (omega (arith, h, some, few)))
]

pub least_watches : (P : Instance) (c : Class) (least : ℕ) → least ≡ watched_least (bounds P c).least → Watches (HasNoBadPart P (TheRules.Least c)) (Least c least)
least_watches P c least is =
    subst (λ n. Watches (HasNoBadPart P (TheRules.Least c)) (Least c n)) (sym is)
    (watches P (TheRules.Least c) (Least c (watched_least (bounds P c).least)) (λ s p w. HasBehind c (watched_least (bounds P c).least) s p w)
    (least_tracks P c (watched_least (bounds P c).least) (watched_alike (bounds P c).least)))

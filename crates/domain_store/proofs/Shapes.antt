-- The words of each kind of rule, by their places.
use Rattle.std.proofs.Common.{◌≡◌, ℕ, zero, suc, ◌+◌, ◌-◌, ◌<◌, ◌≤◌, List, [], ◌∷◌, ◌++◌, length, get_or, refl, ap, sym, ◌∙◌, arith, subst, length-append, inl, inr, Some, None}
use Rattle.std.proofs.lemmas.Option.{same_Some}
use Rattle.std.specs.Prelude.{Option, slice_get}
use Rattle.rwsp_terms.specs.declared.data.Symbol.{Symbol}
use Rattle.rwsp_terms.specs.declared.data.Class.{Class}
use Rattle.rwsp_terms.specs.declared.data.Class.TheVariants.{Shift}
use Rattle.rwsp_terms.specs.declared.data.Sequence.{Sequence}
use Rattle.rwsp_terms.specs.declared.data.Rule.{Rule}
use Rattle.rwsp_terms.specs.declared.data.Rule.TheVariants.{Most, Least, Never}
use Rattle.rwsp_terms.specs.declared.limits.TheConstants.{GREATEST_BOUND}
use Rattle.rwsp_terms.specs.Instance.{Instance, bounds, off_symbol}
use Rattle.rwsp_terms.specs.Window.{Bad, InClass, IsSequence, symbols_of, third_of, TooLong, TooShort}
use Rattle.rwsp_terms.proofs.Windows.{get_or-front, get_or-seam}
use Rattle.domain_store.specs.declared.pattern.Pattern.{Pattern}
use Rattle.domain_store.specs.declared.pattern.Side.{Side}
use Rattle.domain_store.specs.declared.pattern.Side.TheVariants.{In, Outside}
use Rattle.domain_store.specs.Patterns.{IsShaped, IsPatternOf, IsLast, days_of, last_side}

other_default : (xs : List Symbol) (i : ℕ) (d e : Symbol) → i < length xs → get_or xs i d ≡ get_or xs i e
other_default [] i d e h = absurd (omega (arith, h))
other_default (x ∷ xs) zero d e h = refl
other_default (x ∷ xs) (suc i) d e h = other_default xs i d e (omega (arith, h))

-- a block of one length

abbrev pub long_pattern : Class → ℕ → ℕ → Pattern
long_pattern c greatest week = record { first = In c; inner = c; fewest = greatest; most = greatest; last = None; day = None; week = week }

long_shaped : (c : Class) (greatest week p : ℕ) (u : List Symbol) → TooLong c greatest u → IsShaped (long_pattern c greatest week) p u
long_shaped c greatest week p u h = record {
  on_day = tt;
  inner = greatest;
  fewest = omega arith;
  most = omega arith;
  long = omega (arith, h.long);
  first = h.within 0 off_symbol (omega (arith, h.long));
  within = λ i lt. h.within (suc i) off_symbol (omega (arith, h.long, lt));
  last = tt;
}

shaped_long : (c : Class) (greatest week p : ℕ) (u : List Symbol) → IsShaped (long_pattern c greatest week) p u → TooLong c greatest u
shaped_long c greatest week p u h = record {
  long = omega (arith, h.fewest, h.most, h.long);
  within = λ k d lt. subst (InClass c) (other_default u k off_symbol d lt) (at k lt);
}
  where
    at : (k : ℕ) → k < length u → InClass c (get_or u k off_symbol)
    at zero lt = h.first
    at (suc i) lt = h.within i (omega (arith, h.long, lt))

pub pattern_of_long : (c : Class) (greatest week : ℕ) → greatest ≤ GREATEST_BOUND → 0 < week → IsPatternOf (λ p. TooLong c greatest) (long_pattern c greatest week)
pattern_of_long c greatest week few some = record {
  judged = record { one_length = inl refl; few = few; week = some };
  shaped = long_shaped c greatest week;
  kind = shaped_long c greatest week;
}

-- a block between two days outside

abbrev pub short_pattern : Class → ℕ → ℕ → Pattern
short_pattern c most week = record { first = Outside c; inner = c; fewest = 1; most = most; last = Some (Outside c); day = None; week = week }

-- a word with its last symbol apart
record Parted (u : List Symbol) : Type 0 where
  block : List Symbol
  last : Symbol
  whole : u ≡ block ++ last ∷ []
  long : length u ≡ length block + 1

parted : (y : Symbol) (v : List Symbol) → Parted (y ∷ v)
parted y [] = record { block = []; last = y; whole = refl; long = refl }
parted y (z ∷ v) =
    let rest = parted z v in
    record {
      block = y ∷ rest.block;
      last = rest.last;
      whole = ap (λ w. y ∷ w) rest.whole;
      long = let e : suc (length rest.block + 1) ≡ suc (length rest.block) + 1 = omega arith in ap suc rest.long ∙ e;
    }

short_of_parts : (c : Class) (least week p : ℕ) (x : Symbol) (v : List Symbol) → Parted v → IsShaped (short_pattern c (least - 1) week) p (x ∷ v) → TooShort c least (x ∷ v)
short_of_parts c least week p x v parts h =
    let size : h.inner ≡ length parts.block = omega (arith, h.long, parts.long) in
    record {
      before = x;
      block = parts.block;
      after = parts.last;
      whole = ap (λ w. x ∷ w) parts.whole;
      starts = h.first;
      within = λ i d lt.
          let same : get_or v i off_symbol ≡ get_or parts.block i d =
          ap (λ w. get_or w i off_symbol) parts.whole ∙ get_or-front parts.block (parts.last ∷ []) i off_symbol lt ∙ other_default parts.block i off_symbol d lt in
          subst (InClass c) same (h.within i (omega (arith, lt, size)));
      ends = λ in_it.
          let same : get_or v h.inner off_symbol ≡ parts.last =
          ap (λ i. get_or v i off_symbol) size ∙ ap (λ w. get_or w (length parts.block) off_symbol) parts.whole ∙ get_or-seam parts.block parts.last off_symbol in
          h.last (subst (InClass c) (sym same) in_it);
      some = omega (arith, h.fewest, size);
      few = omega (arith, h.fewest, h.most, size);
    }

shaped_short : (c : Class) (least week p : ℕ) (u : List Symbol) → IsShaped (short_pattern c (least - 1) week) p u → TooShort c least u
shaped_short c least week p [] h = absurd (omega (arith, h.long))
shaped_short c least week p (x ∷ []) h = absurd (omega (arith, h.long))
shaped_short c least week p (x ∷ y ∷ v) h = short_of_parts c least week p x (y ∷ v) (parted y v) h

short_shaped : (c : Class) (least week p : ℕ) (u : List Symbol) → TooShort c least u → IsShaped (short_pattern c (least - 1) week) p u
short_shaped c least week p u h =
    let t = length h.block in
    let long : length u ≡ suc (t + 1) = ap length h.whole ∙ ap suc (length-append h.block (h.after ∷ [])) in
    let at : (i : ℕ) → get_or u i off_symbol ≡ get_or (h.before ∷ h.block ++ h.after ∷ []) i off_symbol = λ i. ap (λ w. get_or w i off_symbol) h.whole in
    record {
      on_day = tt;
      inner = t;
      fewest = omega (arith, h.some);
      most = omega (arith, h.few);
      long = omega (arith, long);
      first = λ in_it. h.starts (subst (InClass c) (at 0) in_it);
      within = λ i lt.
          let same : get_or u (suc i) off_symbol ≡ get_or h.block i off_symbol = at (suc i) ∙ get_or-front h.block (h.after ∷ []) i off_symbol lt in
          subst (InClass c) (sym same) (h.within i off_symbol lt);
      last = λ in_it.
          let same : get_or u (suc t) off_symbol ≡ h.after = at (suc t) ∙ get_or-seam h.block h.after off_symbol in
          h.ends (subst (InClass c) same in_it);
    }

pub pattern_of_short : (c : Class) (least most week : ℕ) → most ≡ least - 1 → least ≤ GREATEST_BOUND → 0 < week → IsPatternOf (λ p. TooShort c least) (short_pattern c most week)
pattern_of_short c least most week is few some =
    subst (λ (n : ℕ). IsPatternOf (λ p. TooShort c least) (short_pattern c n week)) (sym is) (record {
      judged = record { one_length = inr (refl, refl); few = omega (arith, few); week = some };
      shaped = short_shaped c least week;
      kind = shaped_short c least week;
    })

-- the symbols of a sequence

abbrev pub sequence_pattern : ℕ → Sequence → Pattern
sequence_pattern week q = record { first = In (Shift q.first); inner = Shift q.second; fewest = 1; most = 1; last = last_side q.third; day = q.day; week = week }

two_or_three : (third : Option Symbol) (u : List Symbol) (x y : Symbol) → length u ≡ 2 + days_of (last_side third) → get_or u 0 off_symbol ≡ x → get_or u 1 off_symbol ≡ y → IsLast (last_side third) (get_or u 2 off_symbol) → u ≡ x ∷ y ∷ third_of third
two_or_three None (r ∷ s ∷ []) x y long a b d = ap (λ (q : Symbol). q ∷ s ∷ []) a ∙ ap (λ (q : Symbol). x ∷ q ∷ []) b
two_or_three None [] x y long a b d = absurd (omega (arith, long))
two_or_three None (r ∷ []) x y long a b d = absurd (omega (arith, long))
two_or_three None (r ∷ s ∷ t ∷ u) x y long a b d = absurd (omega (arith, long))
two_or_three (Some z) (r ∷ s ∷ t ∷ []) x y long a b d = ap (λ (q : Symbol). q ∷ s ∷ t ∷ []) a ∙ ap (λ (q : Symbol). x ∷ q ∷ t ∷ []) b ∙ ap (λ (q : Symbol). x ∷ y ∷ q ∷ []) d
two_or_three (Some z) [] x y long a b d = absurd (omega (arith, long))
two_or_three (Some z) (r ∷ []) x y long a b d = absurd (omega (arith, long))
two_or_three (Some z) (r ∷ s ∷ []) x y long a b d = absurd (omega (arith, long))
two_or_three (Some z) (r ∷ s ∷ t ∷ w ∷ u) x y long a b d = absurd (omega (arith, long))

long_third : (third : Option Symbol) → length (third_of third) ≡ days_of (last_side third)
long_third None = refl
long_third (Some z) = refl

last_third : (third : Option Symbol) (x y : Symbol) → IsLast (last_side third) (get_or (x ∷ y ∷ third_of third) 2 off_symbol)
last_third None x y = tt
last_third (Some z) x y = refl

shaped_sequence : (week : ℕ) (q : Sequence) (p : ℕ) (u : List Symbol) → IsShaped (sequence_pattern week q) p u → IsSequence week q p u
shaped_sequence week q p u h =
    let one : h.inner ≡ 1 = omega (arith, h.fewest, h.most) in (
      two_or_three q.third u q.first q.second (omega (arith, h.long, one)) h.first (h.within 0 (omega (arith, one)))
          (subst (λ i. IsLast (last_side q.third) (get_or u (suc i) off_symbol)) one h.last),
      h.on_day,
    )

sequence_shaped : (week : ℕ) (q : Sequence) (p : ℕ) (u : List Symbol) → IsSequence week q p u → IsShaped (sequence_pattern week q) p u
sequence_shaped week q p u (e, on_day) =
    let at : (i : ℕ) → get_or u i off_symbol ≡ get_or (symbols_of q) i off_symbol = λ i. ap (λ w. get_or w i off_symbol) e in
    record {
      on_day = on_day;
      inner = 1;
      fewest = omega arith;
      most = omega arith;
      long = (let long : length u ≡ suc (suc (length (third_of q.third))) = ap length e in omega (arith, long, long_third q.third));
      first = at 0;
      within = λ i lt. let none : i ≡ 0 = omega (arith, lt) in subst (λ k. get_or u (suc k) off_symbol ≡ q.second) (sym none) (at 1);
      last = subst (IsLast (last_side q.third)) (sym (at 2)) (last_third q.third q.first q.second);
    }

pub pattern_of_sequence : (week : ℕ) (q : Sequence) (last : Option Side) → last ≡ last_side q.third → 0 < week → IsPatternOf (IsSequence week q) (record { first = In (Shift q.first); inner = Shift q.second; fewest = 1; most = 1; last = last; day = q.day; week = week })
pattern_of_sequence week q last is some =
    subst (λ (l : Option Side). IsPatternOf (IsSequence week q) (record { first = In (Shift q.first); inner = Shift q.second; fewest = 1; most = 1; last = l; day = q.day; week = week })) (sym is) (record {
      judged = record { one_length = inl refl; few = omega arith; week = some };
      shaped = sequence_shaped week q;
      kind = shaped_sequence week q;
    })

-- a rule's own words

pub pattern_of_most : (P : Instance) (r : Rule) (c : Class) (m : Pattern) → r ≡ Most c → IsPatternOf (λ p. TooLong c (bounds P c).greatest) m → IsPatternOf (Bad P r) m
pattern_of_most P r c m is h = subst (λ (q : Rule). IsPatternOf (Bad P q) m) (sym is) (record { judged = h.judged; shaped = λ p u bad. h.shaped p u bad; kind = λ p u shaped. h.kind p u shaped })

pub pattern_of_least : (P : Instance) (r : Rule) (c : Class) (m : Pattern) → r ≡ Least c → IsPatternOf (λ p. TooShort c (bounds P c).least) m → IsPatternOf (Bad P r) m
pattern_of_least P r c m is h = subst (λ (q : Rule). IsPatternOf (Bad P q) m) (sym is) (record { judged = h.judged; shaped = λ p u bad. h.shaped p u bad; kind = λ p u shaped. h.kind p u shaped })

pub pattern_of_rule : (P : Instance) (k week : ℕ) (q : Sequence) (m : Pattern) → slice_get P.sequences k ≡ Some q → week ≡ P.days → IsPatternOf (IsSequence week q) m → IsPatternOf (Bad P (Never k)) m
pattern_of_rule P k week q m is days h =
    let own : IsPatternOf (IsSequence P.days q) m = subst (λ (n : ℕ). IsPatternOf (IsSequence n q) m) days h in
    record {
      judged = own.judged;
      shaped = λ p u bad.
          let same : bad.0 ≡ q = same_Some bad.0 q (sym bad.1 ∙ is) in
          own.shaped p u (subst (λ (s : Sequence). IsSequence P.days s p u) same bad.2);
      kind = λ p u shaped. (q, is, own.kind p u shaped);
    }

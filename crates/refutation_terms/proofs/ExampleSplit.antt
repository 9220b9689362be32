-- Words in which D and days off alternate, and a sharp log with a split.
use Rattle.std.proofs.Common.{◌≡◌, ℕ, zero, suc, ◌+◌, ◌-◌, ◌*◌, ◌%◌, ◌<◌, ◌≤◌, List, [], ◌∷◌, ◌++◌, length, refl, ap, sym, ◌∙◌, subst, arith, inl, inr, Bool, true, false, IsTrue, not, ◌||◌, Some, None, pos, lit≤}
use Rattle.std.specs.Prelude.{slice_get, ◌≤ℤ◌, ◌<ℤ◌, ◌*ℤ◌}
use Rattle.std.specs.List.{range_with_len}
use Rattle.std.specs.Int.Signed.{le_z_yes}
use Rattle.std.proofs.lemmas.Bool.{leb-true}
use Rattle.std.proofs.lemmas.Int.{ints}
use Rattle.std.proofs.lemmas.List.{append-nil}
use Rattle.std.proofs.lemmas.List.Sums.{count_by-le-length}
use Rattle.rwsp_terms.specs.declared.data.Bounds.{Bounds}
use Rattle.rwsp_terms.specs.declared.data.Symbol.{Symbol}
use Rattle.rwsp_terms.specs.declared.data.Class.{Class}
use Rattle.rwsp_terms.specs.declared.data.Class.TheVariants.{Shift, Off, Work}
use Rattle.rwsp_terms.specs.declared.data.Rule.{Rule}
use Rattle.rwsp_terms.specs.declared.data.Rule.TheVariants as TheRules
use Rattle.rwsp_terms.specs.declared.data.Weight.{Weight}
use Rattle.rwsp_terms.specs.Instance.{Instance, bounds, cells, shift_count, IsDay, IsSymbol, symbol_numbered, least}
use Rattle.rwsp_terms.specs.Window.{Bad, InClass, TooLong, TooShort}
use Rattle.rwsp_terms.specs.Roster.{IsRule, MeetsDay}
use Rattle.rwsp_terms.proofs.Elements.{all_from}
use Rattle.refutation_terms.specs.declared.lines.Opening.TheVariants.{Full}
use Rattle.refutation_terms.specs.declared.lines.Line.TheVariants.{Split, Closing}
use Rattle.refutation_terms.specs.declared.lines.Leaf.TheVariants.{Day}
use Rattle.refutation_terms.specs.Word.{Domains, Over, Clean, full, weight, total}
use Rattle.refutation_terms.specs.DayLeaf.{is_only, fixed, possible}
use Rattle.refutation_terms.specs.Tree.{First, narrowed, opening, opening_leaves, domains_at}
use Rattle.refutation_terms.specs.Log.{Holds}
use Rattle.refutation_terms.specs.Sharp.{SomeWindowHolds, SomeDayHolds, NoWordHas, IsSpentAt, HoldsAtTop, IsSharpSplit, IsSharp}
use Rattle.refutation_terms.specs.Examples.{from_to, singles, short_rules, odd_cycle, odd_log, off, shift_D}
use Rattle.refutation_terms.proofs.Tests.{left_of}
use Rattle.refutation_terms.proofs.Named.{named-IsRule}
use Rattle.refutation_terms.proofs.Weighing.{too_light}
use Rattle.refutation_terms.proofs.Weighing.{window_weighs_enough}
use Rattle.refutation_terms.proofs.ExampleSharp.{one_shift_is, block_rules_are_short}

-- neighbours that are two symbols, one of them the day off
abbrev pub Differ : Symbol → Symbol → Type 0
Differ a b = (a.number ≡ b.number → ⊥) × (0 < a.number → 0 < b.number → ⊥)

abbrev pub Alternates : List Symbol → Type 0
Alternates [] = Unit {0}
Alternates (a ∷ []) = Unit {0}
Alternates (a ∷ b ∷ u) = Differ a b × Alternates (b ∷ u)

two_differ : (before : List Symbol) (a b : Symbol) (after : List Symbol) → Alternates (before ++ (a ∷ b ∷ []) ++ after) → Differ a b
two_differ [] a b after h = h.0
two_differ (x ∷ []) a b after h = h.1.0
two_differ (x ∷ y ∷ before) a b after h = two_differ (y ∷ before) a b after h.1

-- no block in such a word is longer than a day
both_in : (c : Class) (a b : Symbol) → Differ a b → InClass c a → InClass c b → ⊥
both_in (Shift x) a b d h k = d.0 (ap (λ (y : Symbol). y.number) (h ∙ sym k))
both_in Off a b d h k = d.0 (h ∙ sym k)
both_in Work a b d h k = d.1 h k

never_long : (c : Class) (before part after : List Symbol) → Alternates (before ++ part ++ after) → TooLong c 1 part → ⊥
never_long c before [] after h l = let e = l.long in omega (arith, e)
never_long c before (a ∷ []) after h l = let e = l.long in omega (arith, e)
never_long c before (a ∷ b ∷ []) after h l = both_in c a b (two_differ before a b after h) (l.within 0 a (omega arith)) (l.within 1 a (omega arith))
never_long c before (a ∷ b ∷ x ∷ part) after h l = let e = l.long in omega (arith, e)

never_short : (c : Class) (u : List Symbol) → TooShort c 1 u → ⊥
never_short c u h = let a = h.some in let b = h.few in omega (arith, a, b)

never_bad : (days weeks : ℕ) (demand : List Bounds) (r : Rule) → IsRule (singles days weeks demand) r → (p : ℕ) (before part after : List Symbol) → Alternates (before ++ part ++ after) → Bad (singles days weeks demand) r p part → ⊥
never_bad days weeks demand (TheRules.Most (Shift x)) is p before part after h bad =
    never_long (Shift x) before part after h (subst (λ y. TooLong (Shift x) (bounds (singles days weeks demand) (Shift y)).greatest part) (sym (one_shift_is x is)) bad)
never_bad days weeks demand (TheRules.Least (Shift x)) is p before part after h bad =
    never_short (Shift x) part (subst (λ y. TooShort (Shift x) (bounds (singles days weeks demand) (Shift y)).least part) (sym (one_shift_is x is)) bad)
never_bad days weeks demand (TheRules.Most Off) is p before part after h bad = never_long Off before part after h bad
never_bad days weeks demand (TheRules.Least Off) is p before part after h bad = never_short Off part bad
never_bad days weeks demand (TheRules.Most Work) is p before part after h bad = never_long Work before part after h bad
never_bad days weeks demand (TheRules.Least Work) is p before part after h bad = never_short Work part bad
never_bad days weeks demand (TheRules.Never k) is p before part after h bad = let none : k < 0 = is in omega (arith, none)
never_bad days weeks demand (TheRules.Day j) is p before part after h bad = bad

pub alternating_is_clean : (days weeks : ℕ) (demand : List Bounds) (R : List ℕ) (p : ℕ) (u : List Symbol) → Alternates u → Clean (singles days weeks demand) R p u
alternating_is_clean days weeks demand R p u h r named before part after e bad =
    never_bad days weeks demand r (named-IsRule (singles days weeks demand) R r named) (p + length before) before part after (subst Alternates e h) bad

-- two symbols by turns
pub D_off : Differ shift_D off
D_off = ((λ e. cc), λ a b. omega (arith, b))

pub off_D : Differ off shift_D
off_D = ((λ e. cc), λ a b. omega (arith, a))

abbrev by_turns : Symbol → Symbol → ℕ → List Symbol
by_turns x y zero = []
by_turns x y (suc n) = x ∷ by_turns y x n

length-by_turns : (x y : Symbol) (n : ℕ) → length (by_turns x y n) ≡ n
length-by_turns x y zero = refl
length-by_turns x y (suc n) = let e = length-by_turns y x n in omega (arith, e)

alternate : (x y : Symbol) → Differ x y → Differ y x → (n : ℕ) → Alternates (by_turns x y n)
alternate x y a b zero = tt
alternate x y a b (suc zero) = tt
alternate x y a b (suc (suc n)) = (a, alternate y x b a (suc n))

-- the domains that leave both symbols everywhere, as those at the split
abbrev odd : Instance
odd = odd_cycle (from_to 0 3)

abbrev start : Domains
start = domains_at odd Full odd_log.lines 0

over_start : (x y : Symbol) → ((q : ℕ) → IsTrue (start q x.number)) → ((q : ℕ) → IsTrue (start q y.number)) → (p n : ℕ) → Over odd start p (by_turns x y n)
over_start x y a b p zero = tt
over_start x y a b p (suc n) = (a (p % cells odd), over_start y x b a (p + 1) n)

-- no rule is broken by every word
no_window : SomeWindowHolds odd start → ⊥
no_window h =
    let w = by_turns off shift_D h.2 in
    let none : h.1 ≡ h.1 + 0 = omega arith in
    alternating_is_clean 1 3 (from_to 0 3 ∷ []) (h.0 ∷ []) h.1 w (alternate off shift_D off_D D_off h.2) h.4.0 (h.0, (0, omega arith, refl), h.4.1) [] w [] (sym (append-nil w))
    (subst (λ q. Bad odd h.4.0 q w) none (h.4.2 w (length-by_turns off shift_D h.2) (over_start off shift_D (λ q. refl) (λ q. refl) h.1 h.2)))

-- any number of D and of days off is allowed on the day
at_most : (f : ℕ) → f ≤ 3 → pos 3 <ℤ pos f → ⊥
at_most f a b = omega (arith, ints)

never_negative : (f : ℕ) → pos f <ℤ pos 0 → ⊥
never_negative f a = omega (arith, ints)

no_day_leaf : (D : Domains) (j n : ℕ) (over : Bool) → IsDay odd j → n ≤ 1 → Holds odd None D (Closing (Day j (symbol_numbered n) over)) → ⊥
no_day_leaf D zero n over day small h = let a : 0 < 0 = day.0 in omega (arith, a)
no_day_leaf D (suc (suc j)) n over day small h = let a : suc (suc j) ≤ 1 = day.1 in omega (arith, a)
no_day_leaf D (suc zero) zero true day small h = at_most (fixed odd D 1 0) (count_by-le-length (λ i. is_only odd D (i * 1 + (1 - 1)) 0) (range_with_len 0 3)) h
no_day_leaf D (suc zero) zero false day small h = never_negative (possible odd D 1 0) h
no_day_leaf D (suc zero) (suc zero) true day small h = at_most (fixed odd D 1 1) (count_by-le-length (λ i. is_only odd D (i * 1 + (1 - 1)) 1) (range_with_len 0 3)) h
no_day_leaf D (suc zero) (suc zero) false day small h = never_negative (possible odd D 1 1) h
no_day_leaf D (suc zero) (suc (suc n)) over day small h = omega (arith, small)

no_day : (D : Domains) → SomeDayHolds odd D → ⊥
no_day D h = no_day_leaf D h.0 h.1.number h.2 h.3.0 h.3.1 h.4

-- two turns in which the symbols alternate, and each symbol is somewhere in one of these words
by_D_first : (q n : ℕ) → slice_get (by_turns shift_D off 6) q ≡ Some (symbol_numbered n) → NoWordHas odd start short_rules q (symbol_numbered n) → ⊥
by_D_first q n e none =
    none (by_turns shift_D off 6) refl (over_start shift_D off (λ q. refl) (λ q. refl) 0 6)
    (alternating_is_clean 1 3 (from_to 0 3 ∷ []) short_rules 0 (by_turns shift_D off 6) (alternate shift_D off D_off off_D 6)) e

by_off_first : (q n : ℕ) → slice_get (by_turns off shift_D 6) q ≡ Some (symbol_numbered n) → NoWordHas odd start short_rules q (symbol_numbered n) → ⊥
by_off_first q n e none =
    none (by_turns off shift_D 6) refl (over_start off shift_D (λ q. refl) (λ q. refl) 0 6)
    (alternating_is_clean 1 3 (from_to 0 3 ∷ []) short_rules 0 (by_turns off shift_D 6) (alternate off shift_D off_D D_off 6)) e

each_is_there : (q n : ℕ) → q < 3 → n ≤ 1 → NoWordHas odd start short_rules q (symbol_numbered n) → ⊥
each_is_there zero zero lt small = by_off_first 0 0 refl
each_is_there zero (suc zero) lt small = by_D_first 0 1 refl
each_is_there (suc zero) zero lt small = by_D_first 1 0 refl
each_is_there (suc zero) (suc zero) lt small = by_off_first 1 1 refl
each_is_there (suc (suc zero)) zero lt small = by_off_first 2 0 refl
each_is_there (suc (suc zero)) (suc zero) lt small = by_D_first 2 1 refl
each_is_there q (suc (suc n)) lt small = absurd (omega (arith, small))
each_is_there (suc (suc (suc q))) n lt small = absurd (omega (arith, lt))

left_there : (d only : Bool) → (not d || only) ≡ false → d ≡ true
left_there true only h = refl
left_there false only h = absurd (cc)

small_there : (q z : ℕ) → IsTrue (start q z) → z ≤ 1
small_there q z h = leb-true z (shift_count odd) (left_of (full odd q z) (opening_leaves Full q z) (left_of (opening odd Full q z) true h))

-- so nothing is spent
nothing_is_spent : (q : ℕ) (z : Symbol) → IsSpentAt odd start short_rules q z → ⊥
nothing_is_spent q z s =
    elim s.spent [
      | inl day ↦ no_day (narrowed start (Split q z) First) day
      | inr none ↦ each_is_there q z.number s.position (small_there q z.number (left_there (start q z.number) (is_only odd start q z.number) s.left)) none
    ]

split_is_sharp : IsSharpSplit odd start short_rules 0 shift_D
split_is_sharp = record {
  no_window = no_window;
  no_day = no_day start;
  not_dead = λ dead. by_D_first 0 1 refl (λ u long over clean there. dead u long over clean);
  forced = λ q z s. absurd (nothing_is_spent q z s);
}

splits_are_sharp : (k p : ℕ) (x : Symbol) → slice_get odd_log.lines k ≡ Some (Split p x) → IsSharpSplit odd (domains_at odd Full odd_log.lines k) short_rules p x
splits_are_sharp zero p x e =
    let same_p : 0 ≡ p = cc in
    let same_x : shift_D ≡ x = cc in
    subst (λ q. IsSharpSplit odd start short_rules q x) same_p (subst (λ y. IsSharpSplit odd start short_rules 0 y) same_x split_is_sharp)
splits_are_sharp (suc zero) p x e = absurd (cc)
splits_are_sharp (suc (suc zero)) p x e = absurd (cc)
splits_are_sharp (suc (suc (suc k))) p x e = absurd (cc)

-- D - D meets the day, so no bound is lighter than it weighs
abbrev D_twice : List Symbol
D_twice = by_turns shift_D off 3

day_is_met : (j : ℕ) → IsDay odd j → MeetsDay odd j D_twice
day_is_met zero day x small = let a : 0 < 0 = day.0 in absurd (omega (arith, a))
day_is_met (suc zero) day zero small = (le_z_yes tt, le_z_yes tt)
day_is_met (suc zero) day (suc zero) small = (le_z_yes tt, le_z_yes tt)
day_is_met (suc zero) day (suc (suc x)) small = absurd (omega (arith, small))
day_is_met (suc (suc j)) day x small = let a : suc (suc j) ≤ 1 = day.1 in absurd (omega (arith, a))

no_bound : (y : List Weight) → HoldsAtTop odd (opening odd Full) short_rules y → ⊥
no_bound y h =
    too_light (weight odd y 0 D_twice) (pos 1 *ℤ total odd y)
    (h D_twice refl (refl, (refl, (refl, tt))) (alternating_is_clean 1 3 (from_to 0 3 ∷ []) short_rules 0 D_twice (alternate shift_D off D_off off_D 3)))
    (window_weighs_enough odd y D_twice 0 1 (record { long = refl; symbols = all_from (IsSymbol odd) D_twice (lit≤ tt, (lit≤ tt, (lit≤ tt, tt))) }) (λ j day weighs. day_is_met j day))

le_z_no : pos 1 ≤ℤ pos 0 → ⊥
le_z_no h = omega (arith, ints)

never_demanded : (j n : ℕ) → IsDay odd j → 0 < n → n ≤ 1 → pos 1 ≤ℤ least odd n j → ⊥
never_demanded zero n day some small h = let a : 0 < 0 = day.0 in omega (arith, a)
never_demanded (suc (suc j)) n day some small h = let a : suc (suc j) ≤ 1 = day.1 in omega (arith, a)
never_demanded (suc zero) zero day some small h = omega (arith, some)
never_demanded (suc zero) (suc zero) day some small h = le_z_no h
never_demanded (suc zero) (suc (suc n)) day some small h = omega (arith, small)

pub odd_log_is_sharp : IsSharp odd odd_log
odd_log_is_sharp = record {
  short = short_rules;
  all_short = block_rules_are_short 1 3 (from_to 0 3 ∷ []) (from_to 1 1) (lit≤ tt, lit≤ tt);
  splits = splits_are_sharp;
  top = λ line e undecided. record { plain = λ k y at. no_bound y; searched = λ k y few is. no_bound y };
  turn = λ j x d. never_demanded j x.number d.0 d.1.0 d.1.1 d.2;
}

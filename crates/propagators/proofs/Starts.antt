-- Domains are told apart by their symbols, all short rules have one list, and what plain bounds weigh.
use Rattle.std.proofs.Common.{◌≡◌, ℕ, zero, suc, ◌+◌, ◌<◌, ◌≤◌, List, [], ◌∷◌, length, get_or, refl, sym, ◌∙◌, subst, arith, inl, inr, Option, Some, None, true, false, eqb}
use Rattle.std.specs.Prelude.{All, Contains, slice_get, map, pos, negsuc, ℤ}
use Rattle.std.specs.List.{range_with_len, flat_map}
use Rattle.std.specs.List.Sorted.{IsStrictlyIncreasing}
use Rattle.std.proofs.lemmas.Bool.{eqb-true, eq-eqb}
use Rattle.std.proofs.lemmas.List.Folds.{Any-from_list_any, list_any_at}
use Rattle.std.proofs.lemmas.List.Elements.{All-nil, All-cons, All-append, All-map, All-weaker, All-get_or, All-contains, All-from_get_or}
use Rattle.std.proofs.lemmas.List.FromFn.{length-range_with_len, get_or-range_with_len}
use Rattle.std.proofs.lemmas.Option.{slice_get_within, get_or_from_slice_get}
use Rattle.rwsp_terms.specs.declared.data.Weight.{Weight}
use Rattle.rwsp_terms.specs.declared.data.Rule.{Rule}
use Rattle.rwsp_terms.specs.Instance.{Instance, cells, shift_count, IsDay, IsSymbol}
use Rattle.rwsp_terms.specs.Rules.{rules, rule_of, Names, NamesShortRules}
use Rattle.rwsp_terms.specs.Weights.{AreWeights, IsWeight}
use Rattle.rwsp_terms.specs.declared.limits.TheConstants.{MOST_CELLS, SEARCHED_ROUNDS}
use Rattle.rwsp_terms.proofs.SameLists.{same_rule_lists, HoldSame}
use Rattle.rwsp_model.specs.Validity.{KeepsLimits}
use Rattle.rwsp_model.proofs.Limits.{some_cells}
use Rattle.rwsp_model.proofs.Numbering.{one_number}
use Rattle.refutation_terms.specs.declared.lines.Line.{Line}
use Rattle.refutation_terms.specs.declared.lines.Line.TheVariants.{Closing}
use Rattle.refutation_terms.specs.declared.lines.Leaf.TheVariants.{Words}
use Rattle.refutation_terms.specs.declared.lines.WordClaim.TheVariants.{Light}
use Rattle.refutation_terms.specs.Word.{Domains, AreSame}
use Rattle.refutation_terms.specs.WordsLeaf.{IsTooLight}
use Rattle.refutation_terms.specs.Log.{LineFits, Holds}
use Rattle.refutation_terms.specs.Ranges.{AreRules, AreWeightsOf, WeightsFit}
use Rattle.refutation_terms.specs.Sharp.{plain_bounds, weights_on, both_signs, IsSearched, HoldsAtTop, NoBoundHolds}
use Rattle.refutation_terms.proofs.SameDomains.{turned_round}
use Rattle.domain_store.specs.Sets.{has_symbol, IsDomain}
use Rattle.domain_store.specs.Store.{Store, IsStore, domain_at, has_domain}
use Rattle.clean_words.specs.First.{IsFirstHolding}
use Rattle.clean_words.specs.Searched.{IsFirstSearched}
use Rattle.domain_store.specs.Cycles.{AreShortRules}
use Rattle.propagators.proofs.SameWords.{same_searched, same_at_top}
use Rattle.propagators.specs.TopBounds.{IsTopBound, IsTopAnswer, IsTopWatch, TopWatch, IsBoundLook}

-- sets of symbols

contained : (set : List ℕ) (x : ℕ) → has_symbol set x ≡ true → Contains set x
contained set x h =
    let some = Any-from_list_any (λ y. eqb y x) set h in
    let same : some.1 ≡ x = eqb-true some.1 x some.4 in
    (some.0, some.2, subst (λ z. get_or set some.0 z ≡ z) same some.3)

held : (set : List ℕ) (x : ℕ) → Contains set x → has_symbol set x ≡ true
held set x c = list_any_at (λ y. eqb y x) set c.0 x c.1 (eq-eqb _ _ c.2)

same_sets : (a b : List ℕ) → IsStrictlyIncreasing a → IsStrictlyIncreasing b → ((x : ℕ) → has_symbol a x ≡ has_symbol b x) → a ≡ b
same_sets a b up down same = same_rule_lists a b up down hold
  where
    hold : HoldSame a b
    hold k = (λ c. contained b k (sym (same k) ∙ held a k c), λ c. contained a k (same k ∙ held b k c))

-- two domains are the same where they have the same symbols
pub same_domain : (S T : Store) (p : ℕ) → IsStore S → IsStore T → p < length S.sets → p < length T.sets → ((x : ℕ) → has_domain S p x ≡ has_domain T p x) → domain_at S p ≡ domain_at T p
same_domain S T p s t in_s in_t same =
    same_sets (domain_at S p) (domain_at T p)
    (All-get_or (IsDomain S.shifts) S.sets p [] in_s s.domains).ascends
    (All-get_or (IsDomain T.shifts) T.sets p [] in_t t.domains).ascends
    same

-- all short rules have one list

numbered : (P : Instance) (R : List ℕ) (k : ℕ) → All (λ n. (0 < n) × (n ≤ length (rules P))) R → Contains R k → (r : Rule) × (rule_of P k ≡ Some r)
numbered P R k small c = by_case k (All-contains (λ n. (0 < n) × (n ≤ length (rules P))) R k small c)
  where
    by_case : (n : ℕ) → (0 < n) × (n ≤ length (rules P)) → (r : Rule) × (rule_of P n ≡ Some r)
    by_case zero h = absurd (omega (arith, h.0))
    by_case (suc n) h = first_rule (rules P) n (omega (arith, h.1))
      where
        first_rule : (rs : List Rule) (i : ℕ) → i < length rs → (r : Rule) × (slice_get rs i ≡ Some r)
        first_rule [] i less = absurd (omega (arith, less))
        first_rule (r ∷ rs) zero less = (r, refl)
        first_rule (r ∷ rs) (suc i) less = first_rule rs i (omega (arith, less))

among : (P : Instance) (R S : List ℕ) (k : ℕ) → AreRules P R → NamesShortRules P R → NamesShortRules P S → Contains R k → Contains S k
among P R S k are short_r short_s c =
    let rule = numbered P R k are.1 c in
    let named : Names P S rule.0 = (short_s rule.0).1 ((short_r rule.0).0 (k, c, rule.1)) in
    let same : named.0 ≡ k = one_number P named.0 k rule.0 named.2 rule.1 in
    subst (Contains S) same named.1

pub one_short_list : (P : Instance) (R S : List ℕ) → AreRules P R → AreRules P S → NamesShortRules P R → NamesShortRules P S → R ≡ S
one_short_list P R S a b r s = same_rule_lists R S a.0 b.0 (λ k. (among P R S k a r s, among P S R k b s r))

-- plain bounds weigh the problem's shifts on its days

abbrev AreShifts : Instance → List ℕ → Type 0
AreShifts P xs = All (λ x. x ≤ shift_count P) xs

All-flat_map : {X A : Type 0} (Q : A → Type 0) (f : X → List A) (xs : List X) → All (λ x. All Q (f x)) xs → All Q (flat_map f xs)
All-flat_map Q f [] h = All-nil Q
All-flat_map Q f (x ∷ xs) h = All-append Q (f x) (flat_map f xs) (h 0 x (omega arith)) (All-flat_map Q f xs (λ k d less. h (suc k) d (omega (arith, less))))

ranged : (low len : ℕ) → All (λ x. (low ≤ x) × (x < low + len)) (range_with_len low len)
ranged low len = All-from_get_or (λ x. (low ≤ x) × (x < low + len)) (range_with_len low len) 0 (λ i less.
    let is : get_or (range_with_len low len) i 0 ≡ low + i = get_or-range_with_len low len i 0 (subst (λ n. i < n) (length-range_with_len low len) less) in
    let long : length (range_with_len low len) ≡ len = length-range_with_len low len in
    (omega (arith, is), omega (arith, is, less, long)))

fit_on : (P : Instance) (xs : List ℕ) (v : ℤ) → AreShifts P xs → WeightsFit P (weights_on P xs v)
fit_on P xs v shifts =
    let Fits : Weight → Type 0 = λ e. IsDay P e.day × IsSymbol P e.symbol in
    let on_day : ℕ → List Weight = λ j. map (λ x. record { day = j; symbol = record { number = x }; value = v }) xs in
    All-flat_map Fits on_day (range_with_len 1 P.days)
    (All-weaker (λ j. (1 ≤ j) × (j < 1 + P.days)) (λ j. All Fits (on_day j))
    (λ j day. All-map Fits (λ x. record { day = j; symbol = record { number = x }; value = v }) xs
    (All-weaker (λ x. x ≤ shift_count P) (λ x. IsDay P j × (x ≤ shift_count P)) (λ x small. ((omega (arith, day.0), omega (arith, day.1)), small)) xs shifts))
    (range_with_len 1 P.days) (ranged 1 P.days))

fit_both : (P : Instance) (xs : List ℕ) → AreShifts P xs → All (WeightsFit P) (both_signs P xs)
fit_both P xs shifts =
    All-cons (WeightsFit P) (weights_on P xs (pos 1)) (weights_on P xs (negsuc 0) ∷ []) (fit_on P xs (pos 1) shifts)
    (All-cons (WeightsFit P) (weights_on P xs (negsuc 0)) [] (fit_on P xs (negsuc 0) shifts) (All-nil (WeightsFit P)))

plain_fit : (P : Instance) → All (WeightsFit P) (plain_bounds P)
plain_fit P =
    let K = shift_count P in
    let shifts : AreShifts P (range_with_len 1 K) = All-weaker (λ x. (1 ≤ x) × (x < 1 + K)) (λ x. x ≤ K) (λ x h. omega (arith, h.1)) (range_with_len 1 K) (ranged 1 K) in
    All-append (WeightsFit P) (both_signs P (range_with_len 1 K)) (flat_map (λ x. both_signs P (x ∷ [])) (range_with_len 1 K))
    (fit_both P (range_with_len 1 K) shifts)
    (All-flat_map (WeightsFit P) (λ x. both_signs P (x ∷ [])) (range_with_len 1 K)
    (All-weaker (λ x. x ≤ K) (λ x. All (WeightsFit P) (both_signs P (x ∷ []))) (λ x h. fit_both P (x ∷ []) (All-cons (λ z. z ≤ K) x [] h (All-nil (λ z. z ≤ K)))) (range_with_len 1 K) shifts))

-- the first plain bound that holds
pub plain_holds : (P : Instance) (D : Domains) (R : List ℕ) (k : ℕ) (y : List Weight) → IsFirstHolding (HoldsAtTop P D R) 0 (plain_bounds P) (Some k) → slice_get (plain_bounds P) k ≡ Some y → AreWeights y → IsTopAnswer P D R (Some y)
plain_holds P D R k y first is are =
    let here : first.place ≡ k = omega (arith, first.counted) in
    let at : get_or (plain_bounds P) k [] ≡ y = get_or_from_slice_get (plain_bounds P) k y [] is in
    let HoldsFrom : ℕ → Type 0 = λ n. HoldsAtTop P D R (get_or (plain_bounds P) n []) in
    let H : List Weight → Type 0 = HoldsAtTop P D R in
    let W : List Weight → Type 0 = WeightsFit P in
    ((are, subst W at (All-get_or (WeightsFit P) (plain_bounds P) k [] (slice_get_within (plain_bounds P) k y is) (plain_fit P))), inl (k, is), subst H at (subst HoldsFrom here first.holds))

no_weights : (P : Instance) → AreWeightsOf P []
no_weights P = (record { ascends = λ i j d lt less. absurd (omega (arith, lt, less)); small = All-nil IsWeight }, All-nil (λ e. IsDay P e.day × IsSymbol P e.symbol))

searched_fit : (P : Instance) (D : Domains) (R : List ℕ) (k : ℕ) (y : List Weight) → IsSearched P D R k y → AreWeightsOf P y
searched_fit P D R zero y is = subst (AreWeightsOf P) (sym is) (no_weights P)
searched_fit P D R (suc k) y is = is.2.stepped.are_weights

-- where no plain bound holds: what the search finds
pub searched_answer : (P : Instance) (D : Domains) (R : List ℕ) (y : Option (List Weight)) → IsFirstHolding (HoldsAtTop P D R) 0 (plain_bounds P) None → IsFirstSearched P D R SEARCHED_ROUNDS y → IsTopAnswer P D R y
searched_answer P D R None none searched = record {
  plain = λ k y is.
      let H : List Weight → Type 0 = λ z. HoldsAtTop P D R z → ⊥ in
      subst H (get_or_from_slice_get (plain_bounds P) k y [] is) (none k (slice_get_within (plain_bounds P) k y is));
  searched = searched;
}
searched_answer P D R (Some y) none found = (searched_fit P D R found.0 y found.2, inr (found.0, found.1, found.2), found.3)

-- the bound of such weights fits
top_bound : (P : Instance) (D : Domains) (R : List ℕ) (y : List Weight) → KeepsLimits P → AreShortRules P R → IsTopAnswer P D R (Some y) → LineFits P None false (Closing (Words 0 R (Light 1 0 y)))
top_bound P D R y limits short h =
    let some : 0 < cells P = some_cells P limits in
    let few : cells P ≤ MOST_CELLS = limits.few_cells in
    (some, (omega (arith, some), omega (arith, few)), short.are_rules, h.0, refl)

-- where there are no such weights, no such bound holds
no_top_bound : (P : Instance) (D : Domains) (R : List ℕ) (line : Line) → AreShortRules P R → NoBoundHolds P D R → IsTopBound P D line → Holds P None D line → ⊥
no_top_bound P D R (Closing (Words p S (Light turns reward y))) short none bound holds =
    let lists : S ≡ R = one_short_list P S R bound.2.are_rules short.are_rules bound.2.all_short short.all_short in
    let at_top : HoldsAtTop P D S y = subst (λ n. IsTooLight P None D 0 n 0 S y) bound.1 (subst (λ n. IsTooLight P None D n turns 0 S y) bound.0 holds) in
    let here : HoldsAtTop P D R y = subst (λ (L : List ℕ). HoldsAtTop P D L y) lists at_top in
    elim bound.3 [
      | inl plain ↦ none.plain plain.0 y plain.1 here
      | inr found ↦ none.searched found.0 y found.1 (subst (λ (L : List ℕ). IsSearched P D L found.0 y) lists found.2) here
    ]
no_top_bound P D R line short none bound holds = absurd bound

-- such a bound holds under the same domains too
same_top_bound : (P : Instance) (C D E : Domains) (line : Line) → 0 < cells P → AreSame P D E → IsTopBound P C line → Holds P None D line → Holds P None E line
same_top_bound P C D E (Closing (Words p R (Light turns reward y))) some same bound holds =
    let at_top : HoldsAtTop P D R y = subst (λ n. IsTooLight P None D 0 n 0 R y) bound.1 (subst (λ n. IsTooLight P None D n turns 0 R y) bound.0 holds) in
    subst (λ n. IsTooLight P None E n turns 0 R y) (sym bound.0) (subst (λ n. IsTooLight P None E 0 n 0 R y) (sym bound.1) (same_at_top P D E R y some same at_top))
same_top_bound P C D E line some same bound holds = absurd bound

-- what a look at domains finds, where they are the same as those of the start
pub look_at_start : (w : TopWatch) (S : Store) (y : List Weight) → KeepsLimits w.problem → IsTopWatch w → w.weights ≡ Some y → AreSame w.problem (has_domain S) (has_domain w.start) → IsBoundLook w.problem w.start S (Some (Closing (Words 0 w.rules (Light 1 0 y))))
look_at_start w S y limits is found same =
    let P = w.problem in
    let A : Option (List Weight) → Type 0 = IsTopAnswer P (has_domain w.start) w.rules in
    let h : A (Some y) = subst A found is.answer in (
      top_bound P (has_domain w.start) w.rules y limits is.short h,
      record { same = same; bound = (refl, refl, is.short, h.1) },
      same_at_top P (has_domain w.start) (has_domain S) w.rules y (some_cells P limits) (turned_round P (has_domain S) (has_domain w.start) same) h.2,
    )

-- and where no bound holds there
pub no_look : (w : TopWatch) (S : Store) → KeepsLimits w.problem → IsTopWatch w → w.weights ≡ None → IsBoundLook w.problem w.start S None
no_look w S limits is none = λ line bound holds.
    let P = w.problem in
    let A : Option (List Weight) → Type 0 = IsTopAnswer P (has_domain w.start) w.rules in
    no_top_bound P (has_domain w.start) w.rules line is.short (subst A none is.answer) bound.bound
    (same_top_bound P (has_domain w.start) (has_domain S) (has_domain w.start) line (some_cells P limits) bound.same bound.bound holds)

-- a bound under the same domains
pub same_top : (P : Instance) (D E : Domains) (line : Line) → 0 < cells P → AreSame P D E → IsTopBound P D line → IsTopBound P E line
same_top P D E (Closing (Words p R (Light turns reward y))) some same h = (
  h.0,
  h.1,
  h.2,
  elim h.3 [
    | inl plain ↦ inl plain
    | inr found ↦ inr (found.0, found.1, same_searched P D E R found.0 y some same found.2)
  ],
)
same_top P D E line some same h = absurd h

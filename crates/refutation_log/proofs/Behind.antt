-- What is put behind all others.
use Rattle.std.proofs.Common.{◌≡◌, ℕ, ◌-◌, ◌<◌, ◌≤◌, List, [], ◌∷◌, ◌++◌, length, get_or, refl, ap, sym, ◌∙◌, subst, arith, ◌⊎◌, inl, inr, ⊎_elim, Some, Bool, true, false, IsTrue, length-append}
use Rattle.std.specs.Prelude.{slice_get, MatchBool, Contains, ◌↔◌, AllPairs, All, ℤ, nat_lt}
use Rattle.std.specs.List.Sorted.{IsStrictlyIncreasing}
use Rattle.std.proofs.lemmas.Bool.{cases_lt}
use Rattle.std.proofs.lemmas.Option.{slice_get-get_or, get_or_from_slice_get}
use Rattle.std.proofs.lemmas.List.{get_or_append_left}
use Rattle.std.proofs.lemmas.List.Kept.{AllPairs-from_increasing}
use Rattle.std.proofs.lemmas.List.Quantifiers.{all_pairs_push}
use Rattle.std.proofs.lemmas.List.Elements.{All-push, All-head, All-tail, Contains-append_left, Contains-push, Contains-push_cases}
use Rattle.rwsp_terms.specs.declared.data.Symbol.{Symbol}
use Rattle.rwsp_terms.specs.declared.data.Weight.{Weight}
use Rattle.rwsp_terms.specs.Weights.{ComesBefore, weight_at, AreWeights, IsWeight}
use Rattle.rwsp_terms.specs.Places.{is_at, SetsWeight}
use Rattle.rwsp_terms.proofs.Ascending.{increasing_from_pairs, weight_past, weight_first, test_from_here, here_from_test}
use Rattle.rwsp_terms.proofs.SameLists.{same_rule_lists, same_weights, before_all}
use Rattle.rwsp_text.specs.Fields.{IsValue}
use Rattle.rwsp_terms.specs.declared.limits.TheConstants.{GREATEST_WEIGHT}
use Rattle.refutation_log.specs.Gathering.{entry_of, with_last}
use Rattle.refutation_log.proofs.CitedRules.{not_here}

pub number_behind : (old new : List ℕ) (n : ℕ) → IsStrictlyIncreasing old → All (λ k. k < n) old → IsStrictlyIncreasing new → ((k : ℕ) → Contains new k ↔ (Contains old k ⊎ (k ≡ n))) → new ≡ old ++ n ∷ []
number_behind old new n up below up' holds =
    same_rule_lists new (old ++ n ∷ []) up'
    (increasing_from_pairs (old ++ n ∷ []) (all_pairs_push (λ a b. a < b) old n (AllPairs-from_increasing old up) (λ k d lt. below k d lt)))
    (λ k. (
      λ c. ⊎_elim (λ (o : Contains old k). Contains-append_left old (n ∷ []) k o) (λ (e : k ≡ n). subst (Contains (old ++ n ∷ [])) (sym e) (Contains-push old n)) ((holds k).0 c),
      λ c. (holds k).1 (⊎_elim (λ (o : Contains old k). inl o) (λ (e : n ≡ k). inr (sym e)) (Contains-push_cases old n k c)),
    ))

-- all come before what the last comes before
pub all_before : (z : List Weight) (e : Weight) → AllPairs ComesBefore z → (a : Weight) → slice_get z (length z - 1) ≡ Some a → ComesBefore a e → (k : ℕ) (d : Weight) → k < length z → ComesBefore (get_or z k d) e
all_before z e pairs a last comes k d less =
    let m = length z - 1 in
    let here : get_or z m d ≡ a = get_or_from_slice_get z m a d last in
    let end : ComesBefore (get_or z m d) e = subst (λ (w : Weight). ComesBefore w e) (sym here) comes in
    ⊎_elim
    (λ (l : k < m). before_all (get_or z k d) (get_or z m d) e (pairs k m d l (omega (arith, less))) end)
    (λ (l : m ≤ k). let same : m ≡ k = omega (arith, l, less) in subst (λ i. ComesBefore (get_or z i d) e) same end)
    (cases_lt k m)

seam : (z : List Weight) (e d : Weight) → get_or (z ++ e ∷ []) (length z) d ≡ e
seam [] e d = refl
seam (a ∷ z) e d = seam z e d

-- where weights ascend, each comes before the last
pub before_last : (z : List Weight) (e : Weight) → AllPairs ComesBefore (z ++ e ∷ []) → (k : ℕ) (d : Weight) → k < length z → ComesBefore (get_or z k d) e
before_last z e pairs k d less =
    let there : ComesBefore (get_or (z ++ e ∷ []) k d) (get_or (z ++ e ∷ []) (length z) d) = pairs k (length z) d less (omega (arith, length-append z (e ∷ []))) in
    subst (ComesBefore (get_or z k d)) (seam z e d)
    (subst (λ b. ComesBefore b (get_or (z ++ e ∷ []) (length z) d)) (get_or_append_left z (e ∷ []) d k less) there)

pub one_behind : (z : List Weight) (a e : Weight) (b : Bool) → AllPairs ComesBefore z → true ≡ nat_lt 0 (length z) → a ≡ get_or z (length z - 1) a → IsTrue b ↔ ComesBefore a e → MatchBool b (AllPairs ComesBefore (z ++ e ∷ [])) (AllPairs ComesBefore (z ++ e ∷ []) → ⊥)
one_behind [] a e b pairs some last test = absurd (cc)
one_behind (c ∷ z) a e true pairs some last test =
    all_pairs_push ComesBefore (c ∷ z) e pairs (λ k d lt. all_before (c ∷ z) e pairs a (slice_get-get_or (c ∷ z) (length (c ∷ z) - 1) a (omega arith) ∙ ap (λ w. Some w) (sym last)) (test.0 refl) k d lt)
one_behind (c ∷ z) a e false pairs some last test = λ all.
    let y : List Weight = c ∷ z in
    let t : false ≡ true = test.1 (subst (λ (w : Weight). ComesBefore w e) (sym last) (before_last y e all (length y - 1) a (omega arith))) in
    cc

past_front : (y : List Weight) (e : Weight) (j x : ℕ) → All (λ (a : Weight). is_at a j x ≡ false) y → is_at e j x ≡ true → weight_at (y ++ e ∷ []) j x ≡ e.value
past_front [] e j x none here = weight_first e [] j x here
past_front (a ∷ y) e j x none here =
    weight_past a (y ++ e ∷ []) j x (All-head (λ (w : Weight). is_at w j x ≡ false) a y none) ∙ past_front y e j x (All-tail (λ (w : Weight). is_at w j x ≡ false) a y none) here

off_by : (a : Weight) (y : List Weight) (e : Weight) (j x : ℕ) (b : Bool) → is_at a j x ≡ b → weight_at (y ++ e ∷ []) j x ≡ weight_at y j x → weight_at (a ∷ (y ++ e ∷ [])) j x ≡ weight_at (a ∷ y) j x
off_by a y e j x true t h = weight_first a (y ++ e ∷ []) j x t ∙ sym (weight_first a y j x t)
off_by a y e j x false t h = weight_past a (y ++ e ∷ []) j x t ∙ h ∙ sym (weight_past a y j x t)

off_end : (y : List Weight) (e : Weight) (j x : ℕ) → is_at e j x ≡ false → weight_at (y ++ e ∷ []) j x ≡ weight_at y j x
off_end [] e j x off = weight_past e [] j x off
off_end (a ∷ y) e j x off = off_by a y e j x (is_at a j x) refl (off_end y e j x off)

same_here : (old new : List Weight) (j : ℕ) (s : Symbol) (v : ℤ) (k x : ℕ) (b : Bool) → is_at (entry_of j s v) k x ≡ b → All (λ (a : Weight). ComesBefore a (entry_of j s v)) old → SetsWeight old new j s.number v → weight_at new k x ≡ weight_at (old ++ entry_of j s v ∷ []) k x
same_here old new j s v k x true t before sets =
    let here = here_from_test (entry_of j s v) k x t in
    let none : All (λ (a : Weight). is_at a k x ≡ false) old =
    λ i d lt. subst (λ n. is_at (get_or old i d) n x ≡ false) here.0 (subst (λ n. is_at (get_or old i d) j n ≡ false) here.1 (not_here (get_or old i d) (entry_of j s v) (before i d lt))) in
    subst (λ n. weight_at new n x ≡ v) here.0 (subst (λ n. weight_at new j n ≡ v) here.1 sets.here) ∙ sym (past_front old (entry_of j s v) k x none t)
same_here old new j s v k x false t before sets =
    sets.elsewhere k x (λ q. let same : is_at (entry_of j s v) k x ≡ true = test_from_here (entry_of j s v) k x (sym q.0, sym q.1) in cc)
    ∙ sym (off_end old (entry_of j s v) k x t)

pub weight_behind : (old new : List Weight) (j : ℕ) (s : Symbol) (v : ℤ) → AreWeights old → AllPairs ComesBefore (with_last old j s v) → IsValue GREATEST_WEIGHT v → SetsWeight old new j s.number v → new ≡ with_last old j s v
weight_behind old new j s v are ascends value sets =
    same_weights new (old ++ entry_of j s v ∷ []) sets.weights
    (record {
      ascends = ascends;
      small = All-push IsWeight old (entry_of j s v) are.small value;
    })
    (λ k x. same_here old new j s v k x (is_at (entry_of j s v) k x) refl (before_last old (entry_of j s v) ascends) sets)

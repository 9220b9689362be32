-- The test whether a line of a log rests on the rule of a day.
use Rattle.std.proofs.Common.{◌≡◌, ℕ, List, ap, sym, ◌∙◌, subst, refl, ◌⊎◌, inl, inr, ⊎_elim, Option, Some, Bool, true, false, arith}
use Rattle.std.specs.Prelude.{Contains, ◌↔◌, ◌==◌, ◌||◌}
use Rattle.std.specs.List.{list_any}
use Rattle.std.proofs.lemmas.Bool.{eqb-true}
use Rattle.std.proofs.lemmas.List.Folds.{Any-from_list_any, list_any_at}
use Rattle.std.proofs.lemmas.Option.{slice_get-get_or, same_Some}
use Rattle.rwsp_terms.specs.declared.data.Rule.{Rule}
use Rattle.rwsp_terms.specs.declared.data.Rule.TheVariants.{Day}
use Rattle.rwsp_terms.specs.declared.data.Weight.{Weight}
use Rattle.rwsp_terms.specs.Instance.{Instance, IsDay}
use Rattle.rwsp_terms.specs.Rules.{rule_of}
use Rattle.rwsp_model.proofs.Numbering.{number_at_place}
use Rattle.refutation_terms.specs.declared.lines.Line.TheVariants.{Split, Closing, Unfinished}
use Rattle.refutation_terms.specs.declared.lines.Leaf.{Leaf}
use Rattle.refutation_terms.specs.declared.lines.Leaf.TheVariants as Leaves
use Rattle.refutation_terms.specs.declared.lines.WordClaim.TheVariants.{Dead, Light}
use Rattle.refutation_terms.specs.Leaves.{LeafFits, LeafCites}
use Rattle.refutation_log.specs.Cited.{IsWeighedDayRule}
use Rattle.refutation_log.proofs.CitedRules.{TellsCited, window_cited, listed_cited, weighed_cited, read_at}
use Rattle.plain_words.specs.LogTold.{day_number, is_on, cites_day}
use Rattle.plain_words.specs.Laws.{CitedDaysAreFound}

same_day : (i j : ℕ) → Day i ≡ Day j → i ≡ j
same_day i j e = cc

same_number : (i j : ℕ) → i ≡ j → (i == j) ≡ true
same_number i j e = grind arith

-- what is cited, by the number of the rule
numbered : (P : Instance) (Cited : Rule → Type 0) (A : ℕ → Type 0) (r : Rule) (k : ℕ) → rule_of P k ≡ Some r → TellsCited P Cited A → A k ↔ Cited r
numbered P Cited A r k is tells = (
  λ a. let q = (tells k).0 a in subst Cited (same_Some q.0 r (sym q.1 ∙ is)) q.2,
  λ c. (tells k).1 (r, is, c),
)

-- a number that is listed, and a day that is weighed
listed : (R : List ℕ) (k : ℕ) → (list_any (λ n. n == k) R ≡ true) ↔ Contains R k
listed R k = (
  λ e. let found = Any-from_list_any (λ n. n == k) R e in subst (Contains R) (eqb-true found.1 k found.4) (found.0, found.2, found.3),
  λ c. list_any_at (λ n. n == k) R c.0 k c.1 (same_number _ k c.2),
)

weighed : (P : Instance) (y : List Weight) (j k : ℕ) → rule_of P k ≡ Some (Day j) → (list_any (is_on j) y ≡ true) ↔ IsWeighedDayRule P y k
weighed P y j k is = (
  λ e.
      let found = Any-from_list_any (is_on j) y e in
      let entry = found.1 in
      (found.0, entry, found.2, slice_get-get_or y found.0 entry found.2 ∙ ap (λ (w : Weight). Some w) found.3, is ∙ ap (λ i. Some (Day i)) (sym (eqb-true entry.day j found.4))),
  λ q.
      let at = read_at y q.0 q.1 q.3 in
      list_any_at (is_on j) y q.0 q.1 q.2 (ap (is_on j) at.1 ∙ same_number q.1.day j (same_day q.1.day j (same_Some (Day q.1.day) (Day j) (sym q.4 ∙ is)))),
)

-- one of two tests
either : (b c : Bool) (A B : Type 0) → (b ≡ true) ↔ A → (c ≡ true) ↔ B → ((b || c) ≡ true) ↔ (A ⊎ B)
either true c A B one other = (λ e. inl (one.0 refl), λ h. refl)
either false c A B one other = (λ e. inr (other.0 e), λ h. ⊎_elim (λ (a : A). absurd (let e : false ≡ true = one.1 a in cc)) (λ (b : B). other.1 b) h)

leaf_found : (P : Instance) (goal : Option ℕ) (counts : Bool) (leaf : Leaf) (j k : ℕ) → LeafFits P goal counts leaf → IsDay P j → rule_of P k ≡ Some (Day j) → (cites_day k j (Closing leaf) ≡ true) ↔ LeafCites P leaf (Day j)
leaf_found P goal counts (Leaves.Window number p len) j k fits day is =
    let tells = numbered P _ (λ n. n ≡ number) (Day j) k is (window_cited P number p len fits) in
    (λ e. tells.0 (sym (eqb-true number k e)), λ c. same_number number k (sym (tells.1 c)))
leaf_found P goal counts (Leaves.Day i x over) j k fits day is = (λ e. ap (λ n. Day n) (sym (eqb-true i j e)), λ c. same_number i j (sym (same_day j i c)))
leaf_found P goal counts (Leaves.Words p R (Dead len)) j k fits day is =
    let tells = numbered P _ (Contains R) (Day j) k is (listed_cited P R fits.2) in
    let test = either (list_any (λ n. n == k) R) false (Contains R k) ⊥ (listed R k) (λ e. absurd (cc), λ none. absurd none) in
    (λ e. ⊎_elim tells.0 (λ (none : ⊥). absurd none) (test.0 e), λ c. test.1 (inl (tells.1 c)))
leaf_found P goal counts (Leaves.Words p R (Light turns reward y)) j k fits day is =
    let tells = numbered P _ _ (Day j) k is (weighed_cited P R y fits.2 fits.3.0) in
    let test = either (list_any (λ n. n == k) R) (list_any (is_on j) y) (Contains R k) (IsWeighedDayRule P y k) (listed R k) (weighed P y j k is) in
    (λ e. tells.0 (test.0 e), λ c. test.1 (tells.1 c))
leaf_found P goal counts Leaves.Few j k fits day is = (λ e. absurd (cc), λ none. absurd none)
leaf_found P goal counts (Leaves.Blocks x) j k fits day is = (λ e. inr (j, day, refl), λ c. refl)

pub cited_days : CitedDaysAreFound
cited_days P goal counts (Split p x) j fits day = (λ e. absurd (cc), λ none. absurd none)
cited_days P goal counts Unfinished j fits day = (λ e. absurd (cc), λ none. absurd none)
cited_days P goal counts (Closing leaf) j fits day = leaf_found P goal counts leaf j (day_number P j) fits day (number_at_place P (Day j) (day_number P j) day refl)

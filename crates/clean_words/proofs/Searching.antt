-- The weights of a round are one, and the search continues from round to round.
use Rattle.std.proofs.Common.{◌≡◌, ℕ, zero, suc, ◌+◌, ◌≤◌, List, [], ap, sym, ◌∙◌, subst, arith, ⊎_elim, below_more, Option, Some}
use Rattle.std.proofs.lemmas.Int.{ints}
use Rattle.rwsp_terms.specs.declared.data.Symbol.{Symbol}
use Rattle.rwsp_terms.specs.declared.data.Weight.{Weight}
use Rattle.rwsp_terms.specs.Instance.{Instance}
use Rattle.rwsp_terms.specs.Weights.{weight_at}
use Rattle.rwsp_terms.proofs.SameLists.{same_weights}
use Rattle.refutation_terms.specs.Word.{Domains}
use Rattle.refutation_terms.specs.Sharp.{step, AreStepped, IsNext, IsSearched, HoldsAtTop}
use Rattle.refutation_terms.proofs.Causes.{first_same}
use Rattle.clean_words.specs.Searched.{NoneHolds, IsTopEscape, IsFollowing, AreValuesWithin}
use Rattle.clean_words.proofs.Stepping.{IsInside, inside_or_not, zero_outside, stepped_within}

next_same : (P : Instance) (D : Domains) (R : List ℕ) (y a b : List Weight) → IsNext P D R y a → IsNext P D R y b → a ≡ b
next_same P D R y a b h k = same_weights a b h.stepped.are_weights.0 k.stepped.are_weights.0 same
  where
    word : h.word ≡ k.word
    word = first_same h.word k.word (h.is_heaviest.least k.word k.is_heaviest.heavy) (k.is_heaviest.least h.word h.is_heaviest.heavy)

    same : (j x : ℕ) → weight_at a j x ≡ weight_at b j x
    same j x =
        ⊎_elim (λ (inside : IsInside P j x). h.stepped.values j x inside.0 inside.1 ∙ ap (λ w. step P y w j x) word ∙ sym (k.stepped.values j x inside.0 inside.1))
        (λ (outside : IsInside P j x → ⊥). zero_outside P a h.stepped.are_weights j x outside ∙ sym (zero_outside P b k.stepped.are_weights j x outside))
        (inside_or_not P j x)

searched_same : (P : Instance) (D : Domains) (R : List ℕ) (k : ℕ) (y z : List Weight) → IsSearched P D R k y → IsSearched P D R k z → y ≡ z
searched_same P D R zero y z h i = h ∙ sym i
searched_same P D R (suc k) y z h i =
    let before : h.0 ≡ i.0 = searched_same P D R k h.0 i.0 h.1 i.1 in
    let Q : List Weight → Type 0 = λ w. IsNext P D R w y in
    next_same P D R i.0 y z (subst Q before h.2) i.2

-- the search has come to the weights of a round, and no bound before held
pub record IsReached (P : Instance) (D : Domains) (R : List ℕ) (k : ℕ) (y : List Weight) : Type 0 where
  pub searched : IsSearched P D R k y
  pub within : AreValuesWithin k y
  pub none : NoneHolds P D R k

pub reached_start : (P : Instance) (D : Domains) (R : List ℕ) (y : List Weight) → y ≡ [] → IsReached P D R 0 y
reached_start P D R y is =
    let Q : List Weight → Type 0 = AreValuesWithin 0 in
    record {
      searched = is;
      within = subst Q (sym is) (λ j x. (omega (arith, ints), omega (arith, ints)));
      none = λ k z lt. absurd (omega (arith, lt));
    }

next_within : (P : Instance) (D : Domains) (R : List ℕ) (n : ℕ) (y next : List Weight) → AreValuesWithin n y → IsNext P D R y next → AreValuesWithin (n + 1) next
next_within P D R n y next h is = stepped_within P y next is.word n h is.stepped

pub reached_more : (P : Instance) (D : Domains) (R : List ℕ) (k : ℕ) (y next : List Weight) → IsReached P D R k y → IsFollowing P D R y (Some next) → IsReached P D R (k + 1) next
reached_more P D R k y next h is =
    let more : suc k ≡ k + 1 = omega arith in
    let S : ℕ → Type 0 = λ n. IsSearched P D R n next in
    let here : (z : List Weight) → IsSearched P D R k z → HoldsAtTop P D R z → ⊥ = λ z searched holds.
    let H : List Weight → Type 0 = HoldsAtTop P D R in
    is.0 (subst H (searched_same P D R k z y searched h.searched) holds) in
    record {
      searched = subst S more (y, h.searched, is.1);
      within = next_within P D R k y next h.within is.1;
      none = λ i z lt. below_more (λ n. (w : List Weight) → IsSearched P D R n w → HoldsAtTop P D R w → ⊥) k (λ n less w. h.none n w less) here i lt z;
    }

-- the weights a step on by the least of the heaviest words of one turn follow, where the bound doesn't hold
pub followed : (P Q : Instance) (D : Domains) (R : List ℕ) (y : List Weight) (found : Option (List Symbol)) (word letters : List Symbol) (next : List Weight) → IsTopEscape P D R y found → found ≡ Some word → Q ≡ P → letters ≡ word → AreStepped Q y letters next → IsFollowing P D R y (Some next)
followed P Q D R y found word letters next escapes is same spelled stepped =
    let here = subst (IsTopEscape P D R y) is escapes in
    let stepped_here : AreStepped P y word next = subst (λ (u : List Symbol). AreStepped P y u next) spelled (subst (λ (I : Instance). AreStepped I y letters next) same stepped) in
    (here.0, record { word = word; is_heaviest = here.1; stepped = stepped_here })

pub values_within : (n m : ℕ) (y : List Weight) → n ≤ m → AreValuesWithin n y → AreValuesWithin m y
values_within n m y le within j x = (omega (arith, ints, le, (within j x).0), omega (arith, ints, le, (within j x).1))

-- Which positions stay settled where a domain changes.
use Rattle.std.proofs.Common.{◌≡◌, ◌≢◌, ◌⊎◌, inl, inr, ℕ, zero, suc, ◌+◌, ◌*◌, ◌<◌, ◌≤◌, refl, List, [], ◌∷◌, length, get_or, set, replicate, sym, ◌∙◌, subst, arith, Bool, true, false, IsTrue, get_or-set_other}
use Rattle.std.proofs.lemmas.Bool.{cases_eq, cases_lt}
use Rattle.std.proofs.lemmas.List.{length-set}
use Rattle.rwsp_terms.specs.declared.data.Symbol.{Symbol}
use Rattle.rwsp_terms.specs.Instance.{cells}
use Rattle.refutation_terms.proofs.InWords.{idle_as_said}
use Rattle.domain_store.specs.Sets.{has_symbol}
use Rattle.domain_store.specs.Store.{Store, domain_at, has_domain, HasDomains}
use Rattle.clean_words.specs.Automata.{RuleAutomaton}
use Rattle.propagators.specs.Known.{KnownCycle, known, KnowsDomains, IsSupportedAt}
use Rattle.propagators.specs.Marks.{row_at}
use Rattle.propagators.specs.KeptCycle.{IsCycle, HasJoiningStep, AreAwaited}
use Rattle.propagators.specs.CycleCuts.{IsUnsupported}
use Rattle.propagators.proofs.Turning.{supported_by, nowhere_by}
use Rattle.propagators.proofs.CutSymbols.{none_beside, beside_another, nowhere_in_store, nowhere_known}

-- the rows of a position on both sides are those from before, wherever no flag was raised
pub record KeepsRows (p : ℕ) (front front2 back back2 : List (List ℕ)) (q : ℕ) : Type 0 where
  pub apart : q ≢ p
  pub before : row_at front2 q ≡ row_at front q
  pub behind : row_at back2 (q + 1) ≡ row_at back (q + 1)

-- which rows stay where the two days of a position are mended: all but those between the day and the end in the front,
-- and in the back all but those behind low, and behind start up to the day
pub record RowsStay (p n end low start : ℕ) (front front1 front2 back back1 back2 : List (List ℕ)) : Type 0 where
  pub reach : p ≤ end
  pub front_before : (i : ℕ) → i ≤ p → row_at front1 i ≡ row_at front i
  pub front_behind : (i : ℕ) → end < i → i < length front → row_at front1 i ≡ row_at front i
  pub front_second : (i : ℕ) → i ≤ p + n → row_at front2 i ≡ row_at front1 i
  pub back_second : (i : ℕ) → i < low → row_at back1 (i + 1) ≡ row_at back (i + 1)
  pub start_reach : start ≤ p
  pub back_before : (i : ℕ) → i < start → row_at back2 (i + 1) ≡ row_at back1 (i + 1)
  pub back_behind : (i : ℕ) → p < i → row_at back2 i ≡ row_at back1 i

keeps_rows : (n p end low start q : ℕ) (front front1 front2 back back1 back2 : List (List ℕ)) → p < n → n < length front → RowsStay p n end low start front front1 front2 back back1 back2
    → q < n → q < low → (q < start) ⊎ (end < q) → KeepsRows p front front2 back back2 q
keeps_rows n p end low start q front front1 front2 back back1 back2 within few r less q_low (inl early) = record {
  apart = λ e. omega (arith, e, early, r.start_reach);
  before = r.front_second q (omega (arith, less)) ∙ r.front_before q (omega (arith, early, r.start_reach));
  behind = r.back_before q early ∙ r.back_second q q_low;
}
keeps_rows n p end low start q front front1 front2 back back1 back2 within few r less q_low (inr late) = record {
  apart = λ e. omega (arith, e, late, r.reach);
  before = r.front_second q (omega (arith, less)) ∙ r.front_behind q late (omega (arith, less, few));
  behind = r.back_behind (q + 1) (omega (arith, late, r.reach)) ∙ r.back_second q q_low;
}

-- a position whose rows and domain stay keeps its support
supported_still : {A : RuleAutomaton} {sets front back : List (List ℕ)} (c : IsCycle A sets front back) (p : ℕ) (s : List ℕ) {front2 back2 : List (List ℕ)} (d : IsCycle A (set sets p s) front2 back2) (q : ℕ)
    → q < cells A.problem → KeepsRows p front front2 back back2 q → IsSupportedAt (known A sets) q → IsSupportedAt (known A (set sets p s)) q
supported_still {A} {sets} {front} {back} c p s {front2} {back2} d q within keeps supported x many held none =
    let same : get_or (set sets p s) q [] ≡ get_or sets q [] = get_or-set_other sets p q s [] keeps.apart in
    let Many : List ℕ → Type 0 = λ v. 2 ≤ length v in
    let IsHeld : List ℕ → Type 0 = λ v. IsTrue (has_symbol v x.number) in
    let Joins : List ℕ → List ℕ → Type 0 = λ before behind. HasJoiningStep A.steps x before behind in
    supported x (subst Many same many) (subst IsHeld same held)
    (nowhere_by c q x within
    (λ _ joins. supported_by d q x within held
    (subst (λ r. Joins r (row_at back2 (q + 1))) (sym keeps.before) (subst (λ r. Joins (row_at front q) r) (sym keeps.behind) joins)) none))

-- flags are raised from a position on, and none is taken down
pub record IsRaised (start end : ℕ) (old new : List Bool) : Type 0 where
  pub long : length new ≡ length old
  pub kept : (q : ℕ) → get_or new q false ≡ false → get_or old q false ≡ false
  pub raised : (q : ℕ) → start ≤ q → q < end → q < length old → get_or new q false ≡ true

-- what the raised flags leave settled
pub still_awaited : {A : RuleAutomaton} {sets front back : List (List ℕ)} (c : IsCycle A sets front back) (p : ℕ) (s : List ℕ) {front2 back2 : List (List ℕ)} (d : IsCycle A (set sets p s) front2 back2) (front1 back1 : List (List ℕ)) (end low start : ℕ) (pending pending1 pending2 : List Bool)
    → p < length sets → RowsStay p (length sets) end low start front front1 front2 back back1 back2
    → IsRaised start (end + 1) pending pending1 → IsRaised low (length sets) pending1 pending2
    → AreAwaited (known A sets) pending → AreAwaited (known A (set sets p s)) pending2
still_awaited {A} {sets} {front} {back} c p s {front2} {back2} d front1 back1 end low start pending pending1 pending2 within rows one two a = record {
  long = two.long ∙ one.long ∙ a.long;
  settled = λ q less calm2.
      let calm1 : get_or pending1 q false ≡ false = two.kept q calm2 in
      let calm : get_or pending q false ≡ false = one.kept q calm1 in
      let n : length sets ≡ cells A.problem = c.long in
      let many : length front ≡ 2 * cells A.problem + 1 = c.front_long in
      let pend : length pending ≡ cells A.problem = a.long in
      let pend1 : length pending1 ≡ length pending = one.long in
      let q_low : q < low = below (cases_lt q low) (λ late. clash (get_or pending2 q false) calm2 (two.raised q late (omega (arith, less, n)) (omega (arith, less, pend, pend1)))) in
      let side : (q < start) ⊎ (end < q) = beside q (λ from to. clash (get_or pending1 q false) calm1 (one.raised q from to (omega (arith, less, pend)))) in
      supported_still c p s d q less
      (keeps_rows (length sets) p end low start q front front1 front2 back back1 back2 within (omega (arith, n, many, c.some)) rows (omega (arith, less, n)) q_low side)
      (a.settled q less calm);
}
  where
    clash : (b : Bool) → b ≡ false → b ≡ true → ⊥
    clash b e f = cc

    below : {a b : ℕ} → (a < b) ⊎ (b ≤ a) → (b ≤ a → ⊥) → a < b
    below (inl h) never = h
    below (inr h) never = absurd (never h)

    beside : (q : ℕ) → (start ≤ q → q < end + 1 → ⊥) → (q < start) ⊎ (end < q)
    beside q never = elim (cases_lt q start) [
      | inl early ↦ inl early
      | inr from ↦ elim (cases_lt end q) [
        | inl late ↦ inr late
        | inr to ↦ absurd (never from (omega (arith, to)))
      ]
    ]

-- without symbols there is nothing to support
pub none_awaited : (A : RuleAutomaton) (sets : List (List ℕ)) (n : ℕ) (pending : List Bool) → sets ≡ replicate n [] → length pending ≡ cells A.problem → AreAwaited (known A sets) pending
none_awaited A sets n pending empty long = record {
  long = long;
  settled = λ p less calm x many held none.
      let P : List (List ℕ) → Type 0 = λ v. 2 ≤ length (get_or v p []) in
      nothing n p (subst P empty many);
}
  where
    nothing : (n p : ℕ) → 2 ≤ length (get_or (replicate {A = List ℕ} n []) p []) → ⊥
    nothing zero p h = omega (arith, h)
    nothing (suc n) zero h = omega (arith, h)
    nothing (suc n) (suc p) h = nothing n p h

-- a flag is taken down
pub settled_more : (C : KnownCycle) (pending : List Bool) (p : ℕ) → AreAwaited C pending → IsSupportedAt C p → AreAwaited C (set pending p false)
settled_more C pending p a here = record {
  long = length-set pending p false ∙ a.long;
  settled = λ q less calm. elim (cases_eq q p) [
    | inl same ↦ subst (λ k. IsSupportedAt C k) (sym same) here
    | inr other ↦ a.settled q less (sym (get_or-set_other pending p q false false other) ∙ calm)
  ];
}

some_held : (s : List ℕ) (x : ℕ) → IsTrue (has_symbol s x) → 1 ≤ length s
some_held [] x h = absurd (cc)
some_held (y ∷ s) x h = omega arith

-- a settled position has no symbol that is cut
pub uncut_where_settled : (C : KnownCycle) (S : Store) (p : ℕ) → KnowsDomains C S → HasDomains S → IsSupportedAt C p → (x : Symbol) → IsUnsupported C S p x → ⊥
uncut_where_settled C S p knows h supported x u =
    let held : IsTrue (has_domain S p x.number) = ((idle_as_said C.problem (has_domain S) p x.number).0 u.useful).0 in
    let Many : List (List ℕ) → Type 0 = λ v. 2 ≤ length (get_or v p []) in
    let Held : List (List ℕ) → Type 0 = λ v. IsTrue (has_symbol (get_or v p []) x.number) in
    elim (cases_lt (length (domain_at S p)) 2) [
      | inl few ↦ none_beside C S p (length (domain_at S p)) x h refl (some_held (domain_at S p) x.number held) few u
      | inr many ↦ supported x (subst Many (sym knows.sets) many) (subst Held (sym knows.sets) held) (nowhere_known C S p x knows.sets u.nowhere)
    ]

-- a position without a symbol that is cut is settled
pub settled_where_uncut : (C : KnownCycle) (S : Store) (p : ℕ) → KnowsDomains C S → HasDomains S → p < cells C.problem → ((x : Symbol) → IsUnsupported C S p x → ⊥) → IsSupportedAt C p
settled_where_uncut C S p knows h within uncut x many held none =
    let Many : List (List ℕ) → Type 0 = λ v. 2 ≤ length (get_or v p []) in
    let Held : List (List ℕ) → Type 0 = λ v. IsTrue (has_symbol (get_or v p []) x.number) in
    uncut x (record {
      position = within;
      useful = beside_another C.problem S p x.number knows.belongs h (subst Held knows.sets held) (subst Many knows.sets many);
      nowhere = nowhere_in_store C S p x knows.sets none;
    })

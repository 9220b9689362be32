-- The numbers of the rules that a line cites.
use Rattle.std.proofs.Common.{◌≡◌, ◌≢◌, ℕ, zero, suc, ◌+◌, ◌<◌, ◌≤◌, List, [], ◌∷◌, length, get_or, refl, ap, sym, ◌∙◌, subst, arith, ◌⊎◌, inl, inr, ⊎_elim, Option, Some, Bool, true, false, pos}
use Rattle.std.specs.Prelude.{Contains, ◌↔◌, slice_get, AllPairs, Result, OnOk, OnErr}
use Rattle.std.proofs.lemmas.Option.{slice_get-get_or, same_Some}
use Rattle.std.proofs.lemmas.List.Elements.{All-contains}
use Rattle.std.proofs.lemmas.Bool.{false_from_ne_true}
use Rattle.rwsp_terms.specs.declared.data.Weight.{Weight}
use Rattle.rwsp_terms.specs.declared.data.Class.TheVariants.{Shift}
use Rattle.rwsp_terms.specs.declared.data.Rule.{Rule}
use Rattle.rwsp_terms.specs.declared.data.Rule.TheVariants.{Day}
use Rattle.rwsp_terms.specs.declared.data.Symbol.{Symbol}
use Rattle.rwsp_terms.specs.Instance.{Instance, symbol_numbered}
use Rattle.rwsp_terms.specs.Roster.{IsRule}
use Rattle.rwsp_terms.specs.Rules.{rule_of, rules, block_rules, Names}
use Rattle.rwsp_terms.specs.Weights.{ComesBefore, weight_at, AreWeights, IsWeight}
use Rattle.rwsp_terms.specs.Places.{is_at}
use Rattle.rwsp_terms.proofs.Ascending.{Contains-cons, Contains-first, weight_past, weight_first, test_from_here, here_from_test}
use Rattle.rwsp_model.proofs.Numbering.{one_number, number_at_place}
use Rattle.rwsp_model.specs.RuleNumbers.{place_of}
use Rattle.refutation_terms.specs.declared.lines.Line.{Line}
use Rattle.refutation_terms.specs.declared.lines.Line.TheVariants.{Closing}
use Rattle.refutation_terms.specs.declared.lines.WordClaim.{WordClaim}
use Rattle.refutation_terms.specs.declared.lines.WordClaim.TheVariants.{Dead, Light}
use Rattle.refutation_terms.specs.declared.lines.Opening.{Opening}
use Rattle.refutation_terms.specs.declared.lines.Opening.TheVariants.{Full, Turned, Given}
use Rattle.refutation_terms.specs.Ranges.{AreRules, HasWeight}
use Rattle.refutation_terms.specs.WindowLeaf.{WindowFits, WindowCites}
use Rattle.refutation_terms.specs.WordsLeaf.{WordsFit}
use Rattle.refutation_terms.specs.BlocksLeaf.{block_rules_of, IsBlockRule}
use Rattle.refutation_terms.specs.Log.{LineFits, Cites, OpeningFits, OpeningCites}
use Rattle.refutation_terms.proofs.LeafLaws.{leaf_cites_rules}
use Rattle.refutation_log.specs.Cited.{Adds, AddsSome, IsCited, IsDayRule, IsWeighedDayRule, ListAndClaimFit}
use Rattle.refutation_log.proofs.Adding.{on_ok, on_err, adds_same, adds_both, some_first, some_then, some_same}

pub rule_there : (P : Instance) (k : ℕ) → 0 < k → k ≤ length (rules P) → (r : Rule) × (rule_of P k ≡ Some r)
rule_there P zero some within = absurd (omega (arith, some))
rule_there P (suc k) some within = (get_or (rules P) k (Day 0), slice_get-get_or (rules P) k (Day 0) (omega (arith, within)))

-- A k is what makes k the number of a rule that is cited
abbrev pub TellsCited : Instance → (Rule → Type 0) → (ℕ → Type 0) → Type 0
TellsCited P Cited A = (k : ℕ) → A k ↔ IsCited P Cited k

in_one : (n k : ℕ) → Contains (n ∷ []) k → k ≡ n
in_one n k c =
    ⊎_elim (λ (no : Contains [] k). absurd (omega (arith, no.1))) (λ (e : k ≡ n). e) (Contains-cons n [] k c)

pub window_cited : (P : Instance) (number p len : ℕ) → WindowFits P number p len → TellsCited P (WindowCites P number) (λ k. k ≡ number)
window_cited P number p len fits k = (
  λ e. let r = rule_there P number fits.0 fits.1 in (r.0, ap (rule_of P) e ∙ r.1, (number, Contains-first number [] number refl, r.1)),
  λ q. one_number P k q.2.0 q.0 q.1 q.2.2 ∙ in_one number q.2.0 q.2.1,
)

named_cited : (P : Instance) (R : List ℕ) (k : ℕ) → AreRules P R → Contains R k → (r : Rule) × (rule_of P k ≡ Some r) × Names P R r
named_cited P R k are c =
    let within = All-contains (λ n. (0 < n) × (n ≤ length (rules P))) R k are.1 c in
    let r = rule_there P k within.0 within.1 in
    (r.0, r.1, (k, c, r.1))

cited_named : (P : Instance) (R : List ℕ) (k : ℕ) (r : Rule) → rule_of P k ≡ Some r → Names P R r → Contains R k
cited_named P R k r e named = subst (Contains R) (one_number P named.0 k r named.2 e) named.1

pub listed_cited : (P : Instance) (R : List ℕ) → AreRules P R → TellsCited P (Names P R) (Contains R)
listed_cited P R are k = (λ c. named_cited P R k are c, λ q. cited_named P R k q.0 q.1 q.2)

pub day_cited : (P : Instance) (j : ℕ) → TellsCited P (λ r. r ≡ Day j) (IsDayRule P j)
day_cited P j k = (λ e. (Day j, e, refl), λ q. q.1 ∙ ap (λ (r : Rule). Some r) q.2)

-- weights

pub not_here : (a e : Weight) → ComesBefore a e → is_at a e.day e.symbol.number ≡ false
not_here a e before =
    false_from_ne_true (is_at a e.day e.symbol.number)
    (λ t. let here = here_from_test a e.day e.symbol.number t in
    ⊎_elim (λ (l : a.day < e.day). omega (arith, l, here.0)) (λ (l : (a.day ≡ e.day) × (a.symbol.number < e.symbol.number)). omega (arith, l.1, here.1)) before)

head_before : (a : Weight) (y : List Weight) (m : ℕ) (e : Weight) → AllPairs ComesBefore (a ∷ y) → m < length y → get_or y m e ≡ e → ComesBefore a e
head_before a y m e pairs less is = subst (ComesBefore a) is (pairs 0 (suc m) e (omega arith) (omega (arith, less)))

tail_pairs : (a : Weight) (y : List Weight) → AllPairs ComesBefore (a ∷ y) → AllPairs ComesBefore y
tail_pairs a y h = λ i j d lt less. h (suc i) (suc j) d (omega (arith, lt)) (omega (arith, less))

pub weight_of_entry : (y : List Weight) (m : ℕ) (e : Weight) → AllPairs ComesBefore y → m < length y → get_or y m e ≡ e → weight_at y e.day e.symbol.number ≡ e.value
weight_of_entry [] m e pairs less is = absurd (omega (arith, less))
weight_of_entry (a ∷ y) zero e pairs less is =
    weight_first a y e.day e.symbol.number (test_from_here a e.day e.symbol.number (ap (λ (w : Weight). w.day) is, ap (λ (w : Weight). w.symbol.number) is)) ∙ ap (λ (w : Weight). w.value) is
weight_of_entry (a ∷ y) (suc m) e pairs less is =
    let lt : m < length y = omega (arith, less) in
    weight_past a y e.day e.symbol.number (not_here a e (head_before a y m e pairs lt is)) ∙ weight_of_entry y m e (tail_pairs a y pairs) lt is

abbrev Entry : List Weight → ℕ → Type 0
Entry y j = (m : ℕ) × (e : Weight) × (m < length y) × (slice_get y m ≡ Some e) × (e.day ≡ j)

entry_later : (a : Weight) (y : List Weight) (j : ℕ) → Entry y j → Entry (a ∷ y) j
entry_later a y j q = (suc q.0, q.1, omega (arith, q.2), q.3, q.4)

entry_by : (a : Weight) (y : List Weight) (j x : ℕ) (b : Bool) → is_at a j x ≡ b → (weight_at y j x ≢ pos 0 → Entry y j) → weight_at (a ∷ y) j x ≢ pos 0 → Entry (a ∷ y) j
entry_by a y j x true e rest h = (0, a, omega arith, refl, (here_from_test a j x e).0)
entry_by a y j x false e rest h = entry_later a y j (rest (λ z. h (weight_past a y j x e ∙ z)))

pub entry_of_weight : (y : List Weight) (j x : ℕ) → weight_at y j x ≢ pos 0 → Entry y j
entry_of_weight [] j x h = absurd (h refl)
entry_of_weight (a ∷ y) j x h = entry_by a y j x (is_at a j x) refl (entry_of_weight y j x) h

pub read_at : {X : Type 0} (xs : List X) (m : ℕ) (x : X) → slice_get xs m ≡ Some x → (m < length xs) × (get_or xs m x ≡ x)
read_at [] m x e = absurd (cc)
read_at (a ∷ xs) zero x e = (omega arith, let same : a ≡ x = cc in same)
read_at (a ∷ xs) (suc m) x e = let r = read_at xs m x e in (omega (arith, r.0), r.1)

has_weight : (P : Instance) (y : List Weight) (m : ℕ) (e : Weight) → AreWeights y → slice_get y m ≡ Some e → HasWeight y e.day
has_weight P y m e are is =
    let at = read_at y m e is in
    let w = weight_of_entry y m e are.ascends at.0 at.1 in
    let small : IsWeight e = subst IsWeight at.1 (are.small m e at.0) in
    (e.symbol.number, λ z. small.2 (sym w ∙ z))

-- what makes a number that of a rule of the list or of a day of the weights
abbrev pub ListedOrWeighed : Instance → List ℕ → List Weight → ℕ → Type 0
ListedOrWeighed P R y k = Contains R k ⊎ IsWeighedDayRule P y k

-- rules and weights make the rules of a list, and of the days of the weights
abbrev pub ListsOrWeighs : Instance → List ℕ → List Weight → Rule → Type 0
ListsOrWeighs P R y r = Names P R r ⊎ ((j : ℕ) × HasWeight y j × (r ≡ Day j))

pub weighed_cited : (P : Instance) (R : List ℕ) (y : List Weight) → AreRules P R → AreWeights y → TellsCited P (ListsOrWeighs P R y) (ListedOrWeighed P R y)
weighed_cited P R y are small k = (
  λ h. ⊎_elim
      (λ (c : Contains R k). let q = named_cited P R k are c in (q.0, q.1, inl q.2))
      (λ (q : IsWeighedDayRule P y k). (Day q.1.day, q.4, inr (q.1.day, has_weight P y q.0 q.1 small q.3, refl)))
      h,
  λ q. ⊎_elim
      (λ (named : Names P R q.0). inl (cited_named P R k q.0 q.1 named))
      (λ (day : (j : ℕ) × HasWeight y j × (q.0 ≡ Day j)).
      let e = entry_of_weight y day.0 day.1.0 day.1.1 in
      inr (e.0, e.1, e.2, e.3, q.1 ∙ ap (λ (r : Rule). Some r) day.2 ∙ ap (λ j. Some (Day j)) (sym e.4)))
      q.2,
)

-- the numbers that are added are those of the rules that are cited
pub adds_cited : {T E : Type 0} (P : Instance) (Cited : Rule → Type 0) (A : ℕ → Type 0) (r : Result T E) (old new : List ℕ) → TellsCited P Cited A → OnOk r (Adds old new A) → OnOk r (Adds old new (IsCited P Cited))
adds_cited P Cited A r old new tells = on_ok r (Adds old new A) (Adds old new (IsCited P Cited)) (λ h. adds_same old new A (IsCited P Cited) h tells)

pub adds_some_cited : {T E : Type 0} (P : Instance) (Cited : Rule → Type 0) (A : ℕ → Type 0) (r : Result T E) (old new : List ℕ) → TellsCited P Cited A → OnErr r (AddsSome old new A) → OnErr r (AddsSome old new (IsCited P Cited))
adds_some_cited P Cited A r old new tells = on_err r (AddsSome old new A) (AddsSome old new (IsCited P Cited)) (λ h. some_same old new A (IsCited P Cited) h tells)

-- two kinds of rules that are cited
pub either_cited : (P : Instance) (A B : Rule → Type 0) (k : ℕ) → (IsCited P A k ⊎ IsCited P B k) ↔ IsCited P (λ r. A r ⊎ B r) k
either_cited P A B k = (
  λ h. ⊎_elim (λ (q : IsCited P A k). (q.0, q.1, inl q.2)) (λ (q : IsCited P B k). (q.0, q.1, inr q.2)) h,
  λ q. ⊎_elim (λ (a : A q.0). inl (q.0, q.1, a)) (λ (b : B q.0). inr (q.0, q.1, b)) q.2,
)

pub adds_either : (P : Instance) (old mid new : List ℕ) (A B : Rule → Type 0) → Adds old mid (IsCited P A) → Adds mid new (IsCited P B) → Adds old new (IsCited P (λ r. A r ⊎ B r))
adds_either P old mid new A B f g =
    adds_same old new (λ k. IsCited P A k ⊎ IsCited P B k) (IsCited P (λ r. A r ⊎ B r)) (adds_both old mid new (IsCited P A) (IsCited P B) f g) (either_cited P A B)

pub some_of_first : (P : Instance) (old new : List ℕ) (A B : Rule → Type 0) → AddsSome old new (IsCited P A) → AddsSome old new (IsCited P (λ r. A r ⊎ B r))
some_of_first P old new A B f =
    some_same old new (λ k. IsCited P A k ⊎ IsCited P B k) (IsCited P (λ r. A r ⊎ B r)) (some_first old new (IsCited P A) (IsCited P B) f) (either_cited P A B)

pub some_of_both : (P : Instance) (old mid new : List ℕ) (A B : Rule → Type 0) → Adds old mid (IsCited P A) → AddsSome mid new (IsCited P B) → AddsSome old new (IsCited P (λ r. A r ⊎ B r))
some_of_both P old mid new A B f g =
    some_same old new (λ k. IsCited P A k ⊎ IsCited P B k) (IsCited P (λ r. A r ⊎ B r)) (some_then old mid new (IsCited P A) (IsCited P B) f g) (either_cited P A B)

-- the rules on blocks, as lists
pub off_cited : (P : Instance) (n : ℕ) → n ≡ 0 → TellsCited P (IsBlockRule n) (IsCited P (Contains (block_rules_of 0)))
off_cited P n e = subst (λ z. TellsCited P (IsBlockRule z) (IsCited P (Contains (block_rules_of 0)))) (sym e) (λ k. (λ q. q, λ q. q))

shift_rules_of : (n : ℕ) → n ≢ 0 → block_rules_of n ≡ block_rules (Shift (symbol_numbered n))
shift_rules_of zero some = absurd (some refl)
shift_rules_of (suc n) some = refl

pub shift_cited : (P : Instance) (x : Symbol) → x.number ≢ 0 → TellsCited P (IsBlockRule x.number) (IsCited P (Contains (block_rules (Shift x))))
shift_cited P x some = subst (λ (rs : List Rule). TellsCited P (Contains rs) (IsCited P (Contains (block_rules (Shift x))))) (sym (shift_rules_of x.number some)) (λ k. (λ q. q, λ q. q))

-- names

pub names_added : (P : Instance) (old new : List ℕ) (Cited : Rule → Type 0) → ((r : Rule) → Cited r → (k : ℕ) × (rule_of P k ≡ Some r)) → Adds old new (IsCited P Cited) → (r : Rule) → Names P new r ↔ (Names P old r ⊎ Cited r)
names_added P old new Cited numbered adds r = (
  λ n. ⊎_elim
      (λ (o : Contains old n.0). inl (n.0, o, n.2))
      (λ (q : IsCited P Cited n.0). inr (subst Cited (same_Some q.0 r (sym q.1 ∙ n.2)) q.2))
      ((adds n.0).0 n.1),
  λ h. ⊎_elim
      (λ (n : Names P old r). (n.0, (adds n.0).1 (inl n.1), n.2))
      (λ (c : Cited r). let k = numbered r c in (k.0, (adds k.0).1 (inr (r, k.1, c)), k.1))
      h,
)

-- a rule of the problem has a number
rule_numbered : (P : Instance) (r : Rule) → IsRule P r → (k : ℕ) × (rule_of P k ≡ Some r)
rule_numbered P r is = (place_of P r + 1, number_at_place P r (place_of P r + 1) is refl)

pub list_and_claim_fit : (P : Instance) (goal : Option ℕ) (p : ℕ) (R : List ℕ) (claim : WordClaim) → WordsFit P goal p R claim → ListAndClaimFit P R claim
list_and_claim_fit P goal p R (Dead len) fits = fits.2
list_and_claim_fit P goal p R (Light turns reward y) fits = (fits.2, fits.3)

pub line_numbered : (P : Instance) (goal : Option ℕ) (counts : Bool) (line : Line) → LineFits P goal counts line → (r : Rule) → Cites P line r → (k : ℕ) × (rule_of P k ≡ Some r)
line_numbered P goal counts (Closing leaf) fits r c = rule_numbered P r (leaf_cites_rules P goal counts leaf r fits c)
line_numbered P goal counts line fits r c = absurd c

pub opening_numbered : (P : Instance) (o : Opening) → OpeningFits P o → (r : Rule) → OpeningCites o r → (k : ℕ) × (rule_of P k ≡ Some r)
opening_numbered P Full fits r c = absurd c
opening_numbered P (Turned t) fits r c = rule_numbered P r (subst (IsRule P) (sym c) fits.0)
opening_numbered P (Given given) fits r c = absurd c

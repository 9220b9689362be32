-- What a propagator of windows keeps.
use Rattle.std.proofs.Common.{◌≡◌, ◌≢◌, ◌⊎◌, inl, inr, ℕ, zero, suc, ◌+◌, ◌*◌, ◌%◌, ◌<◌, ◌≤◌, List, [], ◌∷◌, length, get_or, set, replicate, refl, ap, sym, ◌∙◌, subst, arith, Bool, true, false, ◌||◌, get_or-set_same, get_or-set_other, None}
use Rattle.std.proofs.lemmas.Bool.{cases_eq}
use Rattle.std.proofs.lemmas.Nat.{mod-mul-add}
use Rattle.std.proofs.lemmas.List.{length-set, length-replicate, ext_get_or, get_or-replicate}
use Rattle.rwsp_terms.specs.declared.data.Symbol.{Symbol}
use Rattle.rwsp_terms.specs.Instance.{Instance, cells}
use Rattle.rwsp_terms.specs.declared.limits.TheConstants.{MOST_SHIFTS}
use Rattle.refutation_terms.specs.declared.lines.Line.TheVariants.{Closing}
use Rattle.refutation_terms.specs.declared.lines.Leaf.TheVariants.{Window}
use Rattle.refutation_terms.specs.Word.{Domains, Over}
use Rattle.refutation_terms.specs.WindowLeaf.{IsBlocked}
use Rattle.refutation_terms.specs.Log.{LineFits}
use Rattle.domain_store.specs.Sets.{has_symbol}
use Rattle.domain_store.specs.Store.{Store, BelongsTo, domain_at, IsStore, HasDomains}
use Rattle.domain_store.proofs.Positions.{positions}
use Rattle.domain_store.specs.Looks.{Closes}
use Rattle.propagators.specs.Windows.{IsWindowLeaf, WindowWatch, has_known, LiesOver, IsWatch, IsSpan, NoWindowOver}

-- words over domains that have all symbols of others where the words lie

-- the symbols of the first domains are in the second, where a word of len days from p on lies
abbrev IsWider : Instance → Domains → Domains → ℕ → ℕ → Type 0
IsWider P D E p len = (i x : ℕ) → i < len → D ((p + i) % cells P) x ≡ true → E ((p + i) % cells P) x ≡ true

over_wider : (P : Instance) (D E : Domains) (p : ℕ) (u : List Symbol) → IsWider P D E p (length u) → Over P D p u → Over P E p u
over_wider P D E p [] wider over = tt
over_wider P D E p (y ∷ u) wider over =
    let here : p + 0 ≡ p = omega arith in (
      subst (λ q. E (q % cells P) y.number ≡ true) here (wider 0 y.number (omega arith) (subst (λ q. D (q % cells P) y.number ≡ true) (sym here) over.0)),
      over_wider P D E (p + 1) u (λ i x less has.
          let at : p + 1 + i ≡ p + suc i = omega arith in
          subst (λ q. E (q % cells P) x ≡ true) (sym at) (wider (suc i) x (omega (arith, less)) (subst (λ q. D (q % cells P) x ≡ true) at has))) over.1,
    )

blocked_before : (P : Instance) (D E : Domains) (number p len : ℕ) → IsWider P D E p len → IsBlocked P E number p len → IsBlocked P D number p len
blocked_before P D E number p len wider blocked =
    (blocked.0, blocked.1, λ u long over. blocked.2 u long (over_wider P D E p u (subst (IsWider P D E p) (sym long) wider) over))

-- whether a window lies over a position
lies_over : (P : Instance) (p len q : ℕ) → LiesOver P p len q ⊎ (LiesOver P p len q → ⊥)
lies_over P p zero q = inr (λ over. absurd (omega (arith, over.1)))
lies_over P p (suc len) q =
    elim (cases_eq ((p + len) % cells P) q) [
      | inl here ↦ inl (len, omega arith, here)
      | inr other ↦ elim (lies_over P p len q) [
        | inl over ↦ inl (over.0, omega (arith, over.1), over.2)
        | inr never ↦ inr (λ over. elim (cases_eq over.0 len) [
          | inl last ↦ other (subst (λ i. (p + i) % cells P ≡ q) last over.2)
          | inr before ↦ never (over.0, omega (arith, over.1, before), over.2)
        ])
      ]
    ]

-- one domain more is known

known_other : (sets : List (List ℕ)) (p q x : ℕ) (s : List ℕ) → q ≢ p → has_known (set sets p s) q x ≡ has_known sets q x
known_other sets p q x s other = ap (λ t. has_symbol t x) (get_or-set_other sets p q s [] other)

known_here : (sets : List (List ℕ)) (p x : ℕ) (s : List ℕ) → p < length sets → has_known (set sets p s) p x ≡ has_symbol s x
known_here sets p x s lt = ap (λ t. has_symbol t x) (get_or-set_same sets p s [] lt)

or_cases : (a b c : Bool) → c ≡ (a || b) → (c ≡ true) ⊎ ((a ≡ false) × (b ≡ false))
or_cases true b c e = inl e
or_cases false true c e = inl e
or_cases false false c e = inr (refl, refl)

unlike : (b : Bool) → b ≡ true → b ≡ false → ⊥
unlike b h g = cc

or_keeps : (a b c : Bool) → c ≡ (a || b) → a ≡ true → c ≡ true
or_keeps true b c e h = e
or_keeps false b c e h = absurd (cc)

was_within : (pending : List Bool) (p : ℕ) → get_or pending p false ≡ true → p < length pending
was_within [] p h = absurd (cc)
was_within (b ∷ pending) zero h = omega arith
was_within (b ∷ pending) (suc p) h = omega (arith, was_within pending p h)

-- what holds of each window that holds once the position has this domain
abbrev IsAwaited : Instance → List Bool → ℕ → ℕ → Type 0
IsAwaited P pending p len = (q : ℕ) × (get_or pending q false ≡ true) × LiesOver P p len q

still_awaited : (P : Instance) (sets : List (List ℕ)) (pending : List Bool) (p number at len : ℕ) (s : List ℕ) (flag lost : Bool)
    → IsWatch (record { problem = P; sets = sets; pending = pending }) → flag ≡ (get_or pending p false || lost) → LineFits P None false (Closing (Window number at len)) → IsBlocked P (has_known sets) number at len
    → IsAwaited P (set pending p flag) at len
still_awaited P sets pending p number at len s flag lost w is fits blocked =
    let q = w.awaited number at len fits blocked in
    elim (cases_eq q.0 p) [
      | inr other ↦ (q.0, get_or-set_other pending p q.0 flag false other ∙ q.1, q.2)
      | inl same ↦
          let was : get_or pending p false ≡ true = subst (λ k. get_or pending k false ≡ true) same q.1 in
          let now : flag ≡ true = or_keeps (get_or pending p false) lost flag is was in
          let inside : p < length pending = was_within pending p was in
          (p, get_or-set_same pending p flag false inside ∙ now, subst (LiesOver P at len) same q.2)
    ]

-- the domains known before are no wider where a window does not lie over the position
wider_beside : (P : Instance) (sets : List (List ℕ)) (p at len : ℕ) (s : List ℕ) → (LiesOver P at len p → ⊥) → IsWider P (has_known sets) (has_known (set sets p s)) at len
wider_beside P sets p at len s never i x less has = known_other sets p ((at + i) % cells P) x s (λ e. never (i, less, e)) ∙ has

wider_by : (P : Instance) (sets : List (List ℕ)) (p at len : ℕ) (s : List ℕ) → p < length sets → ((x : ℕ) → has_known sets p x ≡ true → has_symbol s x ≡ true) → IsWider P (has_known sets) (has_known (set sets p s)) at len
wider_by P sets p at len s lt more i x less has =
    elim (cases_eq ((at + i) % cells P) p) [
      | inr other ↦ known_other sets p ((at + i) % cells P) x s other ∙ has
      | inl same ↦
          let here : has_known sets p x ≡ true = subst (λ q. has_known sets q x ≡ true) same has in
          subst (λ q. has_known (set sets p s) q x ≡ true) (sym same) (known_here sets p x s lt ∙ more x here)
    ]

pub taken_over : (P : Instance) (sets : List (List ℕ)) (pending : List Bool) (p : ℕ) (s : List ℕ) (flag lost : Bool)
    → IsWatch (record { problem = P; sets = sets; pending = pending }) → p < length sets → flag ≡ (get_or pending p false || lost)
    → (lost ≡ false → (x : ℕ) → has_known sets p x ≡ true → has_symbol s x ≡ true) → ((x : ℕ) → has_symbol s x ≡ true → x ≤ MOST_SHIFTS)
    → IsWatch (record { problem = P; sets = set sets p s; pending = set pending p flag })
taken_over P sets pending p s flag lost w lt is part small = record {
  long = length-set sets p s ∙ w.long;
  flags = length-set pending p flag ∙ w.flags;
  small = λ q x has. elim (cases_eq q p) [
    | inr other ↦ w.small q x (sym (known_other sets p q x s other) ∙ has)
    | inl same ↦
        let here : has_known (set sets p s) p x ≡ true = subst (λ k. has_known (set sets p s) k x ≡ true) same has in
        small x (sym (known_here sets p x s lt) ∙ here)
  ];
  awaited = λ number at len fits blocked.
      let before : IsWider P (has_known sets) (has_known (set sets p s)) at len → IsAwaited P (set pending p flag) at len = λ wider.
      still_awaited P sets pending p number at len s flag lost w is fits (blocked_before P (has_known sets) (has_known (set sets p s)) number at len wider blocked) in
      elim (or_cases (get_or pending p false) lost flag is) [
        | inr neither ↦ before (wider_by P sets p at len s lt (part neither.1))
        | inl flagged ↦ elim (lies_over P at len p) [
          | inr never ↦ before (wider_beside P sets p at len s never)
          | inl over ↦
              let inside : p < length pending = omega (arith, lt, w.long, w.flags) in
              (p, get_or-set_same pending p flag false inside ∙ flagged, over)
        ]
      ];
}

-- a position that was looked at
pub looked_at : (P : Instance) (S : Store) (sets : List (List ℕ)) (pending : List Bool) (p : ℕ)
    → IsWatch (record { problem = P; sets = sets; pending = pending }) → sets ≡ S.sets → ((number : ℕ) → NoWindowOver P S number p)
    → IsWatch (record { problem = P; sets = sets; pending = set pending p false })
looked_at P S sets pending p w same none = record {
  long = w.long;
  flags = length-set pending p false ∙ w.flags;
  small = w.small;
  awaited = λ number at len fits blocked.
      let q = w.awaited number at len fits blocked in
      elim (cases_eq q.0 p) [
        | inr other ↦ (q.0, get_or-set_other pending p q.0 false false other ∙ q.1, q.2)
        | inl here ↦
            let holds : IsBlocked P (has_known S.sets) number at len = subst (λ t. IsBlocked P (has_known t) number at len) same blocked in
            absurd (none number at len (record { fits = fits; holds = holds }) (subst (LiesOver P at len) here q.2))
      ];
}

-- all positions must yet be looked at
pub all_awaited : (P : Instance) (S : Store) (sets : List (List ℕ)) (pending : List Bool) (n : ℕ) → BelongsTo P S → IsStore S → HasDomains S → sets ≡ S.sets → n ≡ cells P → pending ≡ replicate n true
    → IsWatch (record { problem = P; sets = sets; pending = pending })
all_awaited P S sets pending n belongs store tests same n_is all = record {
  long = ap length same ∙ positions P S belongs store;
  flags = ap length all ∙ length-replicate {A = Bool} n true ∙ n_is;
  small = λ p x has.
      let there : has_known S.sets p x ≡ true = subst (λ t. has_known t p x ≡ true) same has in
      omega (arith, (tests.known p x there).1, store.few_shifts);
  awaited = λ number at len fits blocked.
      let here : at < n = omega (arith, fits.2, n_is) in
      let place : at + 0 ≡ 0 * cells P + at = omega arith in
      let first : (at + 0) % cells P ≡ at = ap (λ k. k % cells P) place ∙ mod-mul-add 0 (cells P) at fits.2 in
      (at, ap (λ flags. get_or flags at false) all ∙ get_or-replicate n at true false here, (0, fits.3.0, first));
}

-- where no position has to be looked at, no window holds
pub none_awaited : (w : WindowWatch) (S : Store) → IsWatch w → w.sets ≡ S.sets → ((q : ℕ) → q < cells w.problem → get_or w.pending q false ≡ false) → Closes w.problem (IsWindowLeaf w.problem) S → ⊥
none_awaited w S watch same none (Closing (Window number p len), among, holds) =
    let known : IsBlocked w.problem (has_known w.sets) number p len = subst (λ t. IsBlocked w.problem (has_known t) number p len) (sym same) holds in
    let q = watch.awaited number p len among known in
    let some : 0 < cells w.problem = omega (arith, among.2) in
    let inside : (p + q.2.0) % cells w.problem < cells w.problem = omega (arith, some) in
    let within : q.0 < cells w.problem = subst (λ k. k < cells w.problem) q.2.2 inside in
    unlike (get_or w.pending q.0 false) q.1 (none q.0 within)
none_awaited w S watch same none (line, among, holds) = absurd among

-- one position was taken over, and the others were the same
pub same_once_taken : (sets : List (List ℕ)) (S : Store) (p : ℕ) → length sets ≡ length S.sets → p < length S.sets → ((q : ℕ) → q ≢ p → get_or sets q [] ≡ domain_at S q) → set sets p (domain_at S p) ≡ S.sets
same_once_taken sets S p long lt others =
    ext_get_or [] (set sets p (domain_at S p)) S.sets (length-set sets p (domain_at S p) ∙ long) (λ q less.
    elim (cases_eq q p) [
      | inl here ↦ ap (λ i. get_or (set sets p (domain_at S p)) i []) here ∙ get_or-set_same sets p (domain_at S p) [] (omega (arith, lt, long)) ∙ ap (λ i. get_or S.sets i []) (sym here)
      | inr other ↦ get_or-set_other sets p q (domain_at S p) [] other ∙ others q other
    ])

-- all were taken over
pub same_all_taken : (a b : List (List ℕ)) → length a ≡ length b → ((q : ℕ) → q < length b → get_or a q [] ≡ get_or b q []) → a ≡ b
same_all_taken a b long done = ext_get_or [] a b long (λ q less. done q (omega (arith, less, long)))

-- where the positions lie that must yet be looked at

either_true : (a b c : Bool) → c ≡ (a || b) → c ≡ true → (a ≡ true) ⊎ (b ≡ true)
either_true true b c e h = inl refl
either_true false b c e h = inr (sym e ∙ h)

pub span_of_all : (pending : List Bool) (n : ℕ) → length pending ≡ n → IsSpan pending 0 n
span_of_all pending n long = record {
  inside = omega (arith, long);
  has_all = λ q has. (omega arith, omega (arith, was_within pending q has, long));
}

pub empty_span : (pending : List Bool) (first end : ℕ) → IsSpan pending first end → ((q : ℕ) → get_or pending q false ≡ false) → IsSpan pending end end
empty_span pending first end span none = record {
  inside = span.inside;
  has_all = λ q has. absurd (unlike (get_or pending q false) has (none q));
}

pub span_looked_at : (pending : List Bool) (p first end : ℕ) → IsSpan pending first end → IsSpan (set pending p false) first end
span_looked_at pending p first end span = record {
  inside = omega (arith, span.inside, length-set pending p false);
  has_all = λ q has. elim (cases_eq q p) [
    | inr other ↦ span.has_all q (sym (get_or-set_other pending p q false false other) ∙ has)
    | inl here ↦
        let there : get_or (set pending p false) p false ≡ true = subst (λ k. get_or (set pending p false) k false ≡ true) here has in
        let inside : p < length pending = omega (arith, was_within (set pending p false) p there, length-set pending p false) in
        absurd (unlike (get_or (set pending p false) p false) there (get_or-set_same pending p false false inside))
  ];
}

pub span_widened : (pending : List Bool) (p first end from to : ℕ) (flag lost : Bool) → IsSpan pending first end → flag ≡ (get_or pending p false || lost) → p < length pending
    → (lost ≡ true → (from ≤ p) × (p < to)) → ((q : ℕ) → first ≤ q → q < end → (from ≤ q) × (q < to)) → to ≤ length pending → IsSpan (set pending p flag) from to
span_widened pending p first end from to flag lost span is lt here others inside = record {
  inside = omega (arith, inside, length-set pending p flag);
  has_all = λ q has. elim (cases_eq q p) [
    | inr other ↦
        let was = span.has_all q (sym (get_or-set_other pending p q flag false other) ∙ has) in
        others q was.0 was.1
    | inl same ↦
        let there : get_or (set pending p flag) p false ≡ true = subst (λ k. get_or (set pending p flag) k false ≡ true) same has in
        let flagged : flag ≡ true = sym (get_or-set_same pending p flag false lt) ∙ there in
        subst (λ k. (from ≤ k) × (k < to)) (sym same) (elim (either_true (get_or pending p false) lost flag is flagged) [
          | inl before ↦ let was = span.has_all p before in others p was.0 was.1
          | inr now ↦ here now
        ])
  ];
}

-- The domains behind a split, maybe with the leaf of its first side.
use Rattle.std.proofs.Common.{◌≡◌, ◌≢◌, ℕ, zero, suc, ◌<◌, List, [], ◌∷◌, ◌++◌, length, get_or, ap, sym, ◌∙◌, subst, arith, inl, inr, true, false, ◌&&◌, ◌||◌, ◌==◌, not}
use Rattle.std.specs.Prelude.{Contains}
use Rattle.std.specs.List.Sorted.{IsStrictlyIncreasing}
use Rattle.std.proofs.Math.Bool.{and-true, or-true}
use Rattle.std.proofs.lemmas.Bool.{cases_lt, ne_eqb, eqb-true, eq-eqb, or_cases}
use Rattle.std.proofs.lemmas.List.{get_or_past}
use Rattle.std.proofs.lemmas.List.Elements.{All-get_or}
use Rattle.rwsp_terms.specs.declared.data.Symbol.{Symbol}
use Rattle.rwsp_terms.specs.Instance.{Instance, cells}
use Rattle.rwsp_terms.proofs.SameLists.{same_rule_lists}
use Rattle.refutation_terms.specs.declared.lines.Line.{Line}
use Rattle.refutation_terms.specs.declared.lines.Line.TheVariants.{Split}
use Rattle.refutation_terms.specs.declared.lines.Opening.{Opening}
use Rattle.refutation_terms.specs.Word.{Domains, AreSame}
use Rattle.refutation_terms.specs.Tree.{First, narrowed, line_leaves, lines_leave, side, domains_at}
use Rattle.refutation_terms.proofs.Tests.{left_of}
use Rattle.domain_store.specs.Sets.{has_symbol, IsDomain}
use Rattle.domain_store.specs.Store.{Store, BelongsTo, domain_at, has_domain, IsStore}
use Rattle.domain_store.proofs.Idle.{positions_of}
use Rattle.domain_store.specs.Looks.{IsNarrowedAt}
use Rattle.roster_search.specs.Written.{IsSplitWithLeaf}
use Rattle.roster_search.proofs.Growing.{EndNone, domains_behind, split_ends_none, leaf_ends_one, leaf_leaves}

set_contains : (set : List ℕ) (x : ℕ) → has_symbol set x ≡ true → Contains set x
set_contains [] x h = absurd (cc)
set_contains (y ∷ set) x h = elim (or_cases (y == x) (has_symbol set x) h) [
  | inl e ↦ (0, omega arith, eqb-true y x e)
  | inr e ↦ let c = set_contains set x e in (suc c.0, omega (arith, c.1), c.2)
]

set_has_at : (set : List ℕ) (x i : ℕ) → i < length set → get_or set i x ≡ x → has_symbol set x ≡ true
set_has_at [] x i lt e = absurd (omega (arith, lt))
set_has_at (y ∷ set) x zero lt e = ap (λ b. b || has_symbol set x) (eq-eqb y x e)
set_has_at (y ∷ set) x (suc i) lt e = ap (λ b. (y == x) || b) (set_has_at set x i (omega (arith, lt)) e) ∙ or-true (y == x)

-- ascending lists of the same symbols are one
pub same_sets : (a b : List ℕ) → IsStrictlyIncreasing a → IsStrictlyIncreasing b → ((z : ℕ) → has_symbol a z ≡ has_symbol b z) → a ≡ b
same_sets a b up_a up_b same =
    same_rule_lists a b up_a up_b
    (λ k. (
      λ c. set_contains b k (sym (same k) ∙ set_has_at a k c.0 c.1 c.2),
      λ c. set_contains a k (same k ∙ set_has_at b k c.0 c.1 c.2),
    ))

-- what a split, maybe with its leaf, leaves elsewhere
leaves_others : (p q z : ℕ) (x : Symbol) (added : List Line) → q ≢ p → IsSplitWithLeaf p x added → lines_leave added q z ≡ true
leaves_others p q z x added other (inl e) =
    let apart : (p == q) ≡ false = ne_eqb p q (λ same. other (sym same)) in
    ap (λ l. lines_leave l q z) e ∙ ap (λ b. (not b || (z == x.number)) && true) apart
leaves_others p q z x added other (inr h) =
    let apart : (p == q) ≡ false = ne_eqb p q (λ same. other (sym same)) in
    ap (λ l. lines_leave l q z) h.2
    ∙ ap (λ b. line_leaves (Split p x) (side (h.0 ∷ [])) q z && b) (leaf_leaves h.0 q z h.1)
    ∙ and-true (line_leaves (Split p x) (side (h.0 ∷ [])) q z)
    ∙ leaves_apart p q z x (h.0 ∷ []) apart
  where
    leaves_apart : (p q z : ℕ) (x : Symbol) (ls : List Line) → (p == q) ≡ false → line_leaves (Split p x) (side ls) q z ≡ true
    leaves_apart p q z x ls apart = cc

pub ends_none : (p : ℕ) (x : Symbol) (added : List Line) → IsSplitWithLeaf p x added → EndNone added
ends_none p x added (inl e) = subst EndNone (sym e) (split_ends_none p x)
ends_none p x added (inr h) = subst EndNone (sym h.2) (leaf_ends_one p x h.0 h.1)

-- a store for the instance that has the domains behind the lines
pub record HasDomainsBehind (P : Instance) (start : Opening) (ls : List Line) (S : Store) : Type 0 where
  pub store : IsStore S
  pub belongs : BelongsTo P S
  pub same : AreSame P (has_domain S) (domains_at P start ls (length ls))

-- the store behind these lines, by the store before them
has_behind : (P : Instance) (start : Opening) (ls added : List Line) (v w : Store) (p : ℕ) (x : Symbol) → HasDomainsBehind P start ls v → HasDomainsBehind P start (ls ++ added) w → IsSplitWithLeaf p x added → (q z : ℕ) → q < cells P → has_domain w q z ≡ (has_domain v q z && lines_leave added q z)
has_behind P start ls added v w p x a b added_is q z lt =
    b.same q z lt
    ∙ domains_behind P start ls added q z (ends_none p x added added_is)
    ∙ ap (λ h. h && lines_leave added q z) (sym (a.same q z lt))

-- only the domain of the split's position becomes smaller
pub narrowed_at : (P : Instance) (start : Opening) (ls added : List Line) (v w : Store) (p : ℕ) (x : Symbol) → HasDomainsBehind P start ls v → HasDomainsBehind P start (ls ++ added) w → IsSplitWithLeaf p x added → p < cells P → IsNarrowedAt v w p
narrowed_at P start ls added v w p x a b added_is inside =
    let many_v : length v.sets ≡ cells P = positions_of P v a.store a.belongs in
    let many_w : length w.sets ≡ cells P = positions_of P w b.store b.belongs in
    let has = has_behind P start ls added v w p x a b added_is in
    record {
      shape = record {
        days = b.belongs.days ∙ sym a.belongs.days;
        weeks = b.belongs.weeks ∙ sym a.belongs.weeks;
        shifts = b.belongs.shifts ∙ sym a.belongs.shifts;
        positions = many_w ∙ sym many_v;
      };
      others = λ q other. elim (cases_lt q (cells P)) [
        | inl lt ↦
            let here_v : IsDomain v.shifts (domain_at v q) = All-get_or (IsDomain v.shifts) v.sets q [] (omega (arith, lt, many_v)) a.store.domains in
            let here_w : IsDomain w.shifts (domain_at w q) = All-get_or (IsDomain w.shifts) w.sets q [] (omega (arith, lt, many_w)) b.store.domains in
            same_sets (domain_at w q) (domain_at v q) here_w.ascends here_v.ascends
            (λ z. has q z lt ∙ ap (λ l. has_domain v q z && l) (leaves_others p q z x added other added_is) ∙ and-true (has_domain v q z))
        | inr ge ↦ get_or_past w.sets q [] (omega (arith, ge, many_w)) ∙ sym (get_or_past v.sets q [] (omega (arith, ge, many_v)))
      ];
      fewer = λ z h. left_of (has_domain v p z) (lines_leave added p z) (sym (has p z inside) ∙ h);
    }

-- the domains at the first side of a split
pub first_side : (P : Instance) (start : Opening) (ls : List Line) (D : Domains) (p : ℕ) (x : Symbol) → AreSame P D (domains_at P start ls (length ls)) → AreSame P (narrowed D (Split p x) First) (domains_at P start (ls ++ Split p x ∷ []) (length (ls ++ Split p x ∷ [])))
first_side P start ls D p x same q z lt =
    ap (λ b. b && line_leaves (Split p x) First q z) (same q z lt)
    ∙ ap (λ b. domains_at P start ls (length ls) q z && b) (sym (and-true (line_leaves (Split p x) First q z)))
    ∙ sym (domains_behind P start ls (Split p x ∷ []) q z (split_ends_none p x))

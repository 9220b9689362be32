-- The log whose only line is a leaf.
use Rattle.std.proofs.Common.{◌≡◌, ℕ, zero, suc, List, [], ◌∷◌, get_or, Bool, refl, ap, sym, ◌∙◌, subst, inl, inr, ⊎_elim, Option, Some, arith}
use Rattle.std.specs.Prelude.{◌⊎◌, ◌↔◌, slice_get, Contains}
use Rattle.std.specs.List.Sorted.{IsStrictlyIncreasing}
use Rattle.std.proofs.lemmas.List.{get_or_default}
use Rattle.rwsp_terms.specs.declared.data.Rule.{Rule}
use Rattle.rwsp_terms.specs.Instance.{Instance}
use Rattle.rwsp_terms.specs.Rules.{rule_of, Names}
use Rattle.rwsp_model.proofs.Numbering.{rule_in_range}
use Rattle.refutation_terms.specs.declared.lines.Line.{Line}
use Rattle.refutation_terms.specs.declared.lines.Line.TheVariants.{Closing}
use Rattle.refutation_terms.specs.declared.lines.Leaf.{Leaf}
use Rattle.refutation_terms.specs.declared.lines.Opening.{Opening}
use Rattle.refutation_terms.specs.Ranges.{AreRules}
use Rattle.refutation_terms.specs.Leaves.{LeafFits, LeafCites, LeafHolds}
use Rattle.refutation_terms.specs.Tree.{Leaf as LeafTree, IsTree, opening}
use Rattle.refutation_terms.specs.Log.{Log, LineFits, Cites, ListsShortOnly, HoldsAt, OpeningFits, CountsFit, OpeningCites, NamesOnlyCited, Passes}
use Rattle.refutation_terms.proofs.TreeDomains.{behind_none}
use Rattle.refutation_log.specs.ReadLog.{log_with}
use Rattle.refutation_log.specs.OneLeaf.{ClosesAll}
use Rattle.refutation_log.specs.Cited.{Adds, IsCited}

-- the rules that an opening and a leaf cite
abbrev pub NamesBoth : Instance → List ℕ → Opening → Leaf → Type 0
NamesBoth P R o leaf = (r : Rule) → Names P R r ↔ (OpeningCites o r ⊎ LeafCites P leaf r)

pub one_tree : (leaf : Leaf) (lines : List Line) → lines ≡ Closing leaf ∷ [] → IsTree lines
one_tree leaf lines e = subst IsTree (sym e) (LeafTree (Closing leaf) tt, refl)

-- what is said of the one line of a list is said of each line at a place of it
at_only : (Q : ℕ → Line → Type 0) (a : Line) → Q 0 a → (k : ℕ) (b : Line) → slice_get (a ∷ []) k ≡ Some b → Q k b
at_only Q a h zero b at = subst (Q 0) (cc at) h
at_only Q a h (suc k) b at = absurd (cc at)

pub only_cited : (P : Instance) (g : Log) (o : Opening) (leaf : Leaf) → NamesBoth P g.named o leaf → g.opening ≡ o → g.lines ≡ Closing leaf ∷ [] → NamesOnlyCited P g
only_cited P g o leaf both by_opening by_lines r n =
    ⊎_elim
    (λ (c : OpeningCites o r). inl (subst (λ z. OpeningCites z r) (sym by_opening) c))
    (λ (c : LeafCites P leaf r). inr (0, Closing leaf, ap (λ ls. slice_get ls 0) by_lines, c))
    ((both r).0 n)

-- it passes where the leaf closes all cases
one_passes : (P : Instance) (R : List ℕ) (o : Opening) (goal : Option ℕ) (counts : Bool) (leaf : Leaf) → AreRules P R → NamesBoth P R o leaf → OpeningFits P o → CountsFit o counts → LeafFits P goal counts leaf → ClosesAll P o goal leaf → Passes P (log_with R o goal counts (Closing leaf ∷ []))
one_passes P R o goal counts leaf are both opening_fits may fits closes =
    let g = log_with R o goal counts (Closing leaf ∷ []) in
    record {
      grounded = record {
        fits = record { named = are; opening = opening_fits; goal = closes.goal_fits; counts = may; lines = at_only (λ k line. LineFits P goal counts line) (Closing leaf) fits };
        allowed = closes.allowed;
        turn_named = λ r c. (both r).1 (inl c);
        named = λ k line r at c. at_only (λ i l. Cites P l r → Names P R r) (Closing leaf) (λ cites. (both r).1 (inr cites)) k line at c;
        short = at_only (λ k line. ListsShortOnly P line) (Closing leaf) closes.short;
      };
      tree = one_tree leaf (Closing leaf ∷ []) refl;
      holds = at_only (HoldsAt P g) (Closing leaf) (subst (λ D. LeafHolds P goal D leaf) (sym (behind_none (opening P o))) closes.holds);
    }

pub log_passes : (P : Instance) (R : List ℕ) (o : Opening) (goal : Option ℕ) (counts : Bool) (leaf : Leaf) (g : Log) → AreRules P R → NamesBoth P R o leaf → OpeningFits P o → CountsFit o counts → LeafFits P goal counts leaf → g.named ≡ R → g.opening ≡ o → g.goal ≡ goal → g.counts ≡ counts → g.lines ≡ Closing leaf ∷ [] → ClosesAll P o goal leaf → Passes P g
log_passes P R o goal counts leaf g are both opening_fits may fits by_name by_opening by_goal by_counts by_lines closes =
    let is : g ≡ log_with R o goal counts (Closing leaf ∷ []) =
    ap (λ n. log_with n g.opening g.goal g.counts g.lines) by_name ∙ ap (λ q. log_with R q g.goal g.counts g.lines) by_opening
    ∙ ap (λ q. log_with R o q g.counts g.lines) by_goal ∙ ap (λ c. log_with R o goal c g.lines) by_counts ∙ ap (log_with R o goal counts) by_lines in
    subst (Passes P) (sym is) (one_passes P R o goal counts leaf are both opening_fits may fits closes)

-- rules that were put into the empty list
pub both_named : (P : Instance) (none mid new : List ℕ) (A B : Rule → Type 0) → none ≡ [] → ((r : Rule) → Names P mid r ↔ (Names P none r ⊎ A r)) → ((r : Rule) → Names P new r ↔ (Names P mid r ⊎ B r)) → (r : Rule) → Names P new r ↔ (A r ⊎ B r)
both_named P none mid new A B e first then r = (
  λ n. ⊎_elim
      (λ (m : Names P mid r). ⊎_elim (λ (o : Names P none r). absurd (nothing o)) (λ (a : A r). inl a) ((first r).0 m))
      (λ (b : B r). inr b)
      ((then r).0 n),
  λ h. ⊎_elim (λ (a : A r). (then r).1 (inl ((first r).1 (inr a)))) (λ (b : B r). (then r).1 (inr b)) h,
)
  where
    nothing : Names P none r → ⊥
    nothing n = let c : Contains [] n.0 = subst (λ (R : List ℕ). Contains R n.0) e n.1 in omega (arith, c.1)

-- its numbers are those of rules
numbers_of : (P : Instance) (none mid new : List ℕ) (A B : Rule → Type 0) → none ≡ [] → Adds none mid (IsCited P A) → Adds mid new (IsCited P B) → (k : ℕ) → Contains new k → (r : Rule) × (rule_of P k ≡ Some r)
numbers_of P none mid new A B e first then k c =
    ⊎_elim
    (λ (m : Contains mid k).
    ⊎_elim
    (λ (o : Contains none k). let d : Contains [] k = subst (λ (R : List ℕ). Contains R k) e o in absurd (omega (arith, d.1)))
    (λ (a : IsCited P A k). (a.0, a.1))
    ((first k).0 m))
    (λ (b : IsCited P B k). (b.0, b.1))
    ((then k).0 c)

pub are_rules : (P : Instance) (none mid new : List ℕ) (A B : Rule → Type 0) → none ≡ [] → Adds none mid (IsCited P A) → Adds mid new (IsCited P B) → IsStrictlyIncreasing new → AreRules P new
are_rules P none mid new A B e first then up = (
  up,
  λ i d lt. (
      let k : ℕ = get_or new i d in
      let rule = numbers_of P none mid new A B e first then k (i, lt, get_or_default new i k d lt) in
      rule_in_range P k rule.0 rule.1
      ),
)

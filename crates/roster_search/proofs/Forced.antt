-- Splits as the propagator says, with more lines and with an equal propagator.
use Rattle.std.proofs.Common.{◌≡◌, ℕ, ◌<◌, ◌≤◌, List, [], ◌∷◌, ◌++◌, length, Option, Some, refl, ap, sym, ◌∙◌, subst, arith, length-append, inl, inr}
use Rattle.std.specs.Prelude.{replicate, slice_get}
use Rattle.std.proofs.lemmas.List.{length_push}
use Rattle.rwsp_terms.specs.declared.data.Symbol.{Symbol}
use Rattle.rwsp_terms.specs.Instance.{Instance, cells}
use Rattle.refutation_terms.specs.declared.lines.Line.{Line}
use Rattle.refutation_terms.specs.declared.lines.Line.TheVariants.{Split, Unfinished}
use Rattle.refutation_terms.specs.declared.lines.Opening.{Opening}
use Rattle.refutation_terms.specs.Word.{Domains, AreSame}
use Rattle.refutation_terms.specs.Tree.{IsLeaf, domains_at}
use Rattle.refutation_terms.specs.FewLeaf.{FewHolds}
use Rattle.domain_store.specs.Store.{Store, IsStore, has_domain}
use Rattle.roster_search.specs.declared.aim.Aim.{Aim}
use Rattle.roster_search.specs.declared.progress.Progress.{Progress}
use Rattle.roster_search.specs.Founds.{IsForced, AtEachSplit}
use Rattle.roster_search.specs.Guides.{IsOpen}
use Rattle.roster_search.specs.Written.{IsProgress, IsSplitWithLeaf, IsSplitOff, IsUnderWay, IsNextStep}
use Rattle.roster_search.proofs.Growing.{EachAt, one_more, split_more, got_in, domains_before}
use Rattle.roster_search.proofs.Logs.{open_rest}
use Rattle.roster_search.proofs.Reaching.{still_not_few}

abbrev pub Leaves : Type 1
Leaves = Store → Line → Type 0

abbrev pub Spent : Type 1
Spent = Store → ℕ → Symbol → Type 0

-- what is said of splits

abbrev Said : Type 1
Said = Domains → ℕ → Symbol → Type 0

abbrev OfLine : Said → ℕ → Domains → Line → Type 0
OfLine Q k D line = (p : ℕ) (x : Symbol) → line ≡ Split p x → Q D p x

each_line : (Q : Said) (P : Instance) (start : Opening) (ls : List Line) → AtEachSplit Q P start ls → EachAt (OfLine Q) P start ls
each_line Q P start ls h k line e p x is = h k p x (e ∙ ap (λ (l : Line). Some l) is)

each_split : (Q : Said) (P : Instance) (start : Opening) (ls : List Line) → EachAt (OfLine Q) P start ls → AtEachSplit Q P start ls
each_split Q P start ls h k p x e = h k (Split p x) e p x refl

of_leaf : (Q : Said) (k : ℕ) (D : Domains) (leaf : Line) → IsLeaf leaf → OfLine Q k D leaf
of_leaf Q k D leaf h p x e = absurd (subst IsLeaf e h)

of_split : (Q : Said) (k : ℕ) (D : Domains) (p : ℕ) (x : Symbol) → Q D p x → OfLine Q k D (Split p x)
of_split Q k D p x h q y e =
    let ep : p ≡ q = cc in
    let ex : x ≡ y = cc in
    subst (λ r. Q D r y) ep (subst (Q D p) ex h)

-- with a leaf more
leaf_said : (Q : Said) (P : Instance) (start : Opening) (ls : List Line) (line : Line) → IsLeaf line → AtEachSplit Q P start ls → AtEachSplit Q P start (ls ++ line ∷ [])
leaf_said Q P start ls line leaf h =
    each_split Q P start (ls ++ line ∷ [])
    (one_more (OfLine Q) P start ls line (each_line Q P start ls h) (of_leaf Q (length ls) (domains_at P start ls (length ls)) line leaf))

-- with a split more
split_said : (Q : Said) (P : Instance) (start : Opening) (ls added : List Line) (p : ℕ) (x : Symbol) → IsSplitWithLeaf p x added → AtEachSplit Q P start ls → Q (domains_at P start ls (length ls)) p x → AtEachSplit Q P start (ls ++ added)
split_said Q P start ls added p x split h here =
    each_split Q P start (ls ++ added)
    (split_more (OfLine Q) P start ls added p x (each_line Q P start ls h) (of_split Q (length ls) (domains_at P start ls (length ls)) p x here) (of_leaf Q) split)

-- with unfinished lines
pub rest_said : (Q : Said) (P : Instance) (start : Opening) (ls : List Line) (n : ℕ) → AtEachSplit Q P start ls → AtEachSplit Q P start (ls ++ replicate n Unfinished)
rest_said Q P start ls n h k p x e = elim (got_in ls (replicate n Unfinished) k (Split p x) e) [
  | inl at ↦
      let le : k ≤ length ls = omega (arith, at.0) in
      subst (λ D. Q D p x) (sym (domains_before P start ls (replicate n Unfinished) k le)) (h k p x at.1)
  | inr at ↦ let clash : Split p x ≡ Unfinished = open_rest n at.0 (Split p x) at.2 in absurd (cc)
]

-- before the first line
pub none_said : (Q : Said) (P : Instance) (start : Opening) (ls : List Line) → ls ≡ [] → AtEachSplit Q P start ls
none_said Q P start ls none k p x e = let got : slice_get [] k ≡ Some (Split p x) = ap (λ (l : List Line). slice_get l k) (sym none) ∙ e in absurd (cc)

-- the same of a search

-- the leaf of few weeks doesn't hold
abbrev pub NotFew : Instance → Option ℕ → Domains → ℕ → Symbol → Type 0
NotFew P goal D p x = FewHolds P goal D → ⊥

-- of lines of the same search
same_said : (Q : Aim → Said) (P : Instance) (a b : Aim) (ls more : List Line) → b ≡ a → more ≡ ls → AtEachSplit (Q a) P a.opening ls → AtEachSplit (Q b) P b.opening more
same_said Q P a b ls more same lines h =
    subst (λ (m : Aim). AtEachSplit (Q m) P m.opening more) (sym same) (subst (AtEachSplit (Q a) P a.opening) (sym lines) h)

-- behind a leaf
pub leaf_under_way : (P : Instance) (a b : Progress) (line : Line) → IsProgress P b → b.aim ≡ a.aim → b.lines.items ≡ a.lines.items ++ line ∷ [] → length a.lines.items < a.aim.budget → IsUnderWay P b
leaf_under_way P a b line w same lines room =
    let few : length b.lines.items ≤ a.aim.budget = omega (arith, ap length lines ∙ length_push a.lines.items line, room) in
    record { written = w; few = subst (λ (m : Aim). length b.lines.items ≤ m.budget) (sym same) few }

pub leaf_next : (P : Instance) (leaves : Leaves) (spent : Spent) (a b : Progress) (line : Line) → IsLeaf line → b.aim ≡ a.aim → b.lines.items ≡ a.lines.items ++ line ∷ [] → IsNextStep P leaves spent a b
leaf_next P leaves spent a b line leaf same lines = record {
  later = record {
    same_aim = same;
    forced = λ h. same_said (λ m. IsForced P leaves spent) P a.aim b.aim (a.lines.items ++ line ∷ []) b.lines.items same lines (leaf_said (IsForced P leaves spent) P a.aim.opening a.lines.items line leaf h);
    no_few = λ h. same_said (λ m. NotFew P m.goal) P a.aim b.aim (a.lines.items ++ line ∷ []) b.lines.items same lines (leaf_said (NotFew P a.aim.goal) P a.aim.opening a.lines.items line leaf h);
  };
  longer = omega (arith, ap length lines ∙ length_push a.lines.items line);
}

-- a split is a line at least
some_added : (p : ℕ) (x : Symbol) (added : List Line) → IsSplitWithLeaf p x added → 0 < length added
some_added p x added (inl e) = subst (λ (ls : List Line). 0 < length ls) (sym e) (omega arith)
some_added p x added (inr o) = subst (λ (ls : List Line). 0 < length ls) (sym o.2) (omega arith)

-- behind a split of open domains
pub split_under_way : (P : Instance) (a b : Progress) (p : ℕ) (x : Symbol) → IsSplitOff P a b p x → length b.lines.items ≤ a.aim.budget → IsUnderWay P b
split_under_way P a b p x off few = record { written = off.written; few = subst (λ (m : Aim). length b.lines.items ≤ m.budget) (sym off.same_aim) few }

pub split_next : (P : Instance) (leaves : Leaves) (spent : Spent) (a b : Progress) (p : ℕ) (x : Symbol) → 0 < cells P → IsProgress P a → IsSplitOff P a b p x → IsStore a.walk.store → AreSame P (has_domain a.walk.store) (domains_at P a.aim.opening a.lines.items (length a.lines.items)) → IsOpen P a.aim.goal (leaves a.walk.store) a.walk.store → ((q : ℕ) (z : Symbol) → spent a.walk.store q z → spent a.walk.store p x) → IsNextStep P leaves spent a b
split_next P leaves spent a b p x some written off store same unclosed forced =
    let here = domains_at P a.aim.opening a.lines.items (length a.lines.items) in
    let forced_here : IsForced P leaves spent (domains_at P a.aim.opening a.lines.items (length a.lines.items)) p x = record {
      store = a.walk.store;
      is_store = store;
      belongs = written.state.belongs;
      agrees = same;
      not_closed = unclosed.0;
      forced = forced;
    } in
    let not_few = still_not_few P a.aim.opening a.aim.goal (has_domain a.walk.store) here some written.goal_fits same unclosed.1 in
    record {
      later = record {
        same_aim = off.same_aim;
        forced = λ h. same_said (λ m. IsForced P leaves spent) P a.aim b.aim (a.lines.items ++ off.added) b.lines.items off.same_aim off.lines
            (split_said (IsForced P leaves spent) P a.aim.opening a.lines.items off.added p x off.split h forced_here);
        no_few = λ h. same_said (λ m. NotFew P m.goal) P a.aim b.aim (a.lines.items ++ off.added) b.lines.items off.same_aim off.lines
            (split_said (NotFew P a.aim.goal) P a.aim.opening a.lines.items off.added p x off.split h not_few);
      };
      longer = omega (arith, ap length off.lines ∙ length-append a.lines.items off.added, some_added p x off.added off.split);
    }

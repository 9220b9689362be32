-- Reading a line in the stack of open splits.
use Rattle.std.proofs.Common.{◌≡◌, ℕ, suc, ◌+◌, ◌<◌, ◌≤◌, List, [], ◌∷◌, ◌++◌, length, Some, None, refl, ap, sym, ◌∙◌, subst, append_assoc, arith, Bool, true, false, ◌&&◌, ◌||◌, ◌==◌, not, IsTrue, cond, inl, inr, zero-add}
use Rattle.std.specs.Prelude.{◌↔◌}
use Rattle.std.proofs.lemmas.Bool.{cases_eq, eq-eqb, ne_eqb}
use Rattle.std.proofs.lemmas.List.Sums.{sum_by-cons}
use Rattle.std.proofs.lemmas.List.{append-nil}
use Rattle.std.proofs.Math.Bool.{and_assoc, and_comm, and-true}
use Rattle.refutation_terms.specs.declared.lines.Line.{Line}
use Rattle.refutation_terms.specs.declared.lines.Line.TheVariants.{Split}
use Rattle.refutation_terms.specs.Word.{Domains}
use Rattle.refutation_terms.specs.Tree.{Node, lines_in, IsTree, after_trees, side, side_takes, line_leaves, lines_leave, narrowed}
use Rattle.refutation_terms.proofs.Trees.{tree_is_read, tree_is_whole}
use Rattle.refutation_terms.proofs.TreeDomains.{in_first, in_second, tree_leaves_all}
use Rattle.refutation_terms.proofs.AsSaid.{past_front}
use Rattle.domain_store.specs.Store.{Store, store_at, domain_at, has_domain}
use Rattle.domain_store.specs.declared.open_split.OpenSplit.{OpenSplit}
use Rattle.domain_store.specs.Splits.{Agrees, IsSplitAt, IsFirstSide, side_in, NoLines, InSplits, HasRead, second_sides_to_come}

-- the outermost marks come before what is inside
under_all : (Q : List Line → Type 0) (n : ℕ) (S : Store) (limit : ℕ) (tail : List OpenSplit) → ((D : Domains) (from : ℕ) (rest : List Line) → InSplits Q n S D from tail rest → from ≤ limit) → (outer : List OpenSplit) (D : Domains) (from : ℕ) (lines : List Line) → InSplits Q n S D from (outer ++ tail) lines → from ≤ limit
under_all Q n S limit tail under [] D from lines h = under D from lines h
under_all Q n S limit tail under (o ∷ outer) D from lines h =
    let inner : o.mark.len ≤ limit = under_all Q n S limit tail under outer (narrowed D (Split o.p o.x) (side_in o.in_second)) o.mark.len h.2 h.5 in
    let order : from ≤ o.mark.len = h.0.order in
    omega arith

-- the store at the mark of a split is as it was
pub split_kept : (n : ℕ) (S T : Store) (D : Domains) (from : ℕ) (o : OpenSplit) → IsSplitAt n S D from o → store_at T o.mark.len ≡ store_at S o.mark.len → o.mark.len ≤ length T.trail → IsSplitAt n T D from o
split_kept n S T D from o h e within = record {
  order = h.order;
  within = within;
  domains = subst (λ U. Agrees n U D) (sym e) h.domains;
  position = h.position;
  held = subst (λ U. IsTrue (has_domain U o.p o.x.number)) (sym e) h.held;
  another = subst (λ U. 2 ≤ length (domain_at U o.p)) (sym e) h.another;
}

-- a change of the innermost splits leaves the outer ones as they are
pub outer_kept : (Q R : List Line → Type 0) (n : ℕ) (S T : Store) (limit : ℕ) (tail new_tail : List OpenSplit) (added : List Line) → ((len : ℕ) → len ≤ limit → store_at T len ≡ store_at S len) → limit ≤ length T.trail → ((D : Domains) (from : ℕ) (rest : List Line) → InSplits Q n S D from tail rest → from ≤ limit) → ((D : Domains) (from : ℕ) (rest : List Line) → InSplits Q n S D from tail rest → InSplits R n T D from new_tail (rest ++ added)) → (outer : List OpenSplit) (D : Domains) (from : ℕ) (lines : List Line) → InSplits Q n S D from (outer ++ tail) lines → InSplits R n T D from (outer ++ new_tail) (lines ++ added)
outer_kept Q R n S T limit tail new_tail added same room under step [] D from lines h = step D from lines h
outer_kept Q R n S T limit tail new_tail added same room under step (o ∷ outer) D from lines h =
    let E = narrowed D (Split o.p o.x) (side_in o.in_second) in
    let inside : o.mark.len ≤ limit = under_all Q n S limit tail under outer E o.mark.len h.2 h.5 in
    let within : o.mark.len ≤ length T.trail = omega arith in (
      split_kept n S T D from o h.0 (same o.mark.len inside) within,
      h.1,
      h.2 ++ added,
      ap (λ ls. ls ++ added) h.3 ∙ ap (λ ls. Split o.p o.x ∷ ls) (append_assoc h.1 h.2 added),
      h.4,
      outer_kept Q R n S T limit tail new_tail added same room under step outer E o.mark.len h.2 h.5,
    )

-- the lines of a whole tree follow
pub tree_read : (n : ℕ) (S : Store) (D : Domains) (splits : List OpenSplit) (lines tree : List Line) → IsTree tree → InSplits NoLines n S D 0 splits lines → InSplits IsTree n S D 0 splits (lines ++ tree)
tree_read n S D splits lines tree is_tree h =
    let inner : InSplits NoLines n S D 0 (splits ++ []) lines = subst (λ s. InSplits NoLines n S D 0 s lines) (sym (append-nil splits)) h in
    let done : InSplits IsTree n S D 0 (splits ++ []) (lines ++ tree) =
    outer_kept NoLines IsTree n S S (length S.trail) [] [] tree (λ len le. refl) (omega arith) (λ E from rest i. i.0)
    (λ E from rest i. (i.0, i.1, subst (λ ls. IsTree (ls ++ tree)) (sym i.2) is_tree)) splits D 0 lines inner in
    subst (λ s. InSplits IsTree n S D 0 s (lines ++ tree)) (append-nil splits) done

same_either_way : (a b : ℕ) → (a == b) ≡ (b == a)
same_either_way a b =
    elim (cases_eq a b) [
      | inl same ↦ eq-eqb a b same ∙ sym (eq-eqb b a (sym same))
      | inr other ↦ ne_eqb a b other ∙ sym (ne_eqb b a (λ e. other (sym e)))
    ]

-- a change at a position by a test, and domains that the same test narrows there
pub narrowed_there : (p q : ℕ) (test held left : Bool) → held ≡ left → ((not (p == q) || test) && held) ≡ (left && (not (q == p) || test))
narrowed_there p q test held left e =
    and_comm (not (p == q) || test) held ∙ ap (λ d. d && (not (p == q) || test)) e ∙ ap (λ b. left && (not b || test)) (same_either_way p q)

-- a store that was changed at the split has the domains of its side
side_agrees : (n : ℕ) (S T : Store) (E : Domains) (o : OpenSplit) (second : Bool) → o.in_second ≡ second → ((q y : ℕ) → has_domain T q y ≡ ((not (q == o.p) || side_takes (side_in second) (y == o.x.number)) && has_domain S q y)) → Agrees n S E → Agrees n T (narrowed E (Split o.p o.x) (side_in o.in_second))
side_agrees n S T E o second is has agrees =
    let there : Agrees n T (narrowed E (Split o.p o.x) (side_in second)) = λ p z lt. has p z ∙ narrowed_there p o.p (side_takes (side_in second) (z == o.x.number)) (has_domain S p z) (E p z) (agrees p z lt) in
    subst (λ b. Agrees n T (narrowed E (Split o.p o.x) (side_in b))) (sym is) there

-- a split begins its first side
pub split_read : (n : ℕ) (S T : Store) (D : Domains) (splits : List OpenSplit) (lines : List Line) (o : OpenSplit) → o.in_second ≡ false → o.mark.len ≡ length S.trail → o.p < n → IsTrue (has_domain S o.p o.x.number) → 2 ≤ length (domain_at S o.p) → store_at S o.mark.len ≡ S → ((q y : ℕ) → has_domain T q y ≡ ((not (q == o.p) || (y == o.x.number)) && has_domain S q y)) → ((len : ℕ) → len ≤ length S.trail → store_at T len ≡ store_at S len) → length S.trail ≤ length T.trail → InSplits NoLines n S D 0 splits lines → InSplits NoLines n T D 0 (splits ++ o ∷ []) (lines ++ Split o.p o.x ∷ [])
split_read n S T D splits lines o first at_end position held another here has same room h =
    let inner : InSplits NoLines n S D 0 (splits ++ []) lines = subst (λ s. InSplits NoLines n S D 0 s lines) (sym (append-nil splits)) h in
    let stood : (E : Domains) (from : ℕ) → from ≤ length S.trail → Agrees n S E → IsSplitAt n S E from o = λ E from le agrees. record {
      order = omega (arith, le, at_end);
      within = omega (arith, at_end);
      domains = subst (λ U. Agrees n U E) (sym here) agrees;
      position = position;
      held = subst (λ U. IsTrue (has_domain U o.p o.x.number)) (sym here) held;
      another = subst (λ U. 2 ≤ length (domain_at U o.p)) (sym here) another;
    } in
    let inside : o.mark.len ≤ length S.trail = omega (arith, at_end) in
    let within : o.mark.len ≤ length T.trail = omega (arith, at_end, room) in
    let none : IsFirstSide o.in_second [] = subst (λ b. IsFirstSide b []) (sym first) refl in
    outer_kept NoLines NoLines n S T (length S.trail) [] (o ∷ []) (Split o.p o.x ∷ []) same room (λ E from rest i. i.0)
    (λ E from rest i. (
      split_kept n S T E from o (stood E from i.0 i.1) (same o.mark.len inside) within,
      [],
      [],
      ap (λ ls. ls ++ Split o.p o.x ∷ []) i.2,
      none,
      (within, side_agrees n S T E o false first has i.1, refl),
    )) splits D 0 lines inner

-- a tree that ends a second side ends its split
pub second_ended : (n : ℕ) (S T : Store) (D : Domains) (splits : List OpenSplit) (lines : List Line) (o : OpenSplit) → o.in_second ≡ true → T ≡ store_at S o.mark.len → ((len : ℕ) → len ≤ o.mark.len → store_at T len ≡ store_at S len) → o.mark.len ≤ length T.trail → InSplits IsTree n S D 0 (splits ++ o ∷ []) lines → InSplits IsTree n T D 0 splits lines
second_ended n S T D splits lines o second at_mark same room h =
    let whole : (rest first left : List Line) → rest ≡ Split o.p o.x ∷ (first ++ left) → IsFirstSide o.in_second first → IsTree left → IsTree rest = λ rest first left e side t.
    let a : IsTree first = subst (λ b. IsFirstSide b first) second side in
    (Node o.p o.x a.0 t.0, ap (λ ls. Split o.p o.x ∷ ls ++ lines_in t.0) a.1 ∙ ap (λ ls. Split o.p o.x ∷ first ++ ls) t.1 ∙ sym e) in
    let done : InSplits IsTree n T D 0 (splits ++ []) (lines ++ []) =
    outer_kept IsTree IsTree n S T o.mark.len (o ∷ []) [] [] same room (λ E from rest i. i.0.order)
    (λ E from rest i.
    let order : from ≤ o.mark.len = i.0.order in (
      omega (arith, order, room),
      subst (λ U. Agrees n U E) (sym at_mark) i.0.domains,
      subst IsTree (sym (append-nil rest)) (whole rest i.1 i.2 i.3 i.4 i.5.2),
    )) splits D 0 lines h in
    subst (λ s. InSplits IsTree n T D 0 s lines) (append-nil splits) (subst (λ ls. InSplits IsTree n T D 0 (splits ++ []) ls) (append-nil lines) done)

-- a tree that ends a first side is followed by the second side
pub first_ended : (n : ℕ) (S T : Store) (D : Domains) (splits : List OpenSplit) (lines : List Line) (o : OpenSplit) → o.in_second ≡ false → ((q y : ℕ) → has_domain T q y ≡ ((not (q == o.p) || not (y == o.x.number)) && has_domain (store_at S o.mark.len) q y)) → ((len : ℕ) → len ≤ o.mark.len → store_at T len ≡ store_at S len) → o.mark.len ≤ length T.trail → InSplits IsTree n S D 0 (splits ++ o ∷ []) lines → InSplits NoLines n T D 0 (splits ++ (record o { in_second = true }) ∷ []) lines
first_ended n S T D splits lines o first has same room h =
    let b : OpenSplit = record o { in_second = true } in
    let alone : (rest first_side left : List Line) → rest ≡ Split o.p o.x ∷ (first_side ++ left) → IsFirstSide o.in_second first_side → rest ≡ Split o.p o.x ∷ left = λ rest first_side left e side.
    let none : first_side ≡ [] = subst (λ c. IsFirstSide c first_side) first side in
    e ∙ ap (λ ls. Split o.p o.x ∷ (ls ++ left)) none in
    let done : InSplits NoLines n T D 0 (splits ++ b ∷ []) (lines ++ []) =
    outer_kept IsTree NoLines n S T o.mark.len (o ∷ []) (b ∷ []) [] same room (λ E from rest i. i.0.order)
    (λ E from rest i.
    let kept : IsSplitAt n T E from o = split_kept n S T E from o i.0 (same o.mark.len (omega arith)) room in (
      record {
        order = kept.order;
        within = kept.within;
        domains = kept.domains;
        position = kept.position;
        held = kept.held;
        another = kept.another;
      },
      i.2,
      [],
      append-nil rest ∙ alone rest i.1 i.2 i.3 i.4 ∙ ap (λ ls. Split o.p o.x ∷ ls) (sym (append-nil i.2)),
      i.5.2,
      (room, side_agrees n (store_at S o.mark.len) T E b true refl has i.0.domains, refl),
    )) splits D 0 lines h in
    subst (λ ls. InSplits NoLines n T D 0 (splits ++ b ∷ []) ls) (append-nil lines) done

-- the innermost split
pub innermost : (Q : List Line → Type 0) (n : ℕ) (S : Store) (o : OpenSplit) (outer : List OpenSplit) (D : Domains) (from : ℕ) (lines : List Line) → InSplits Q n S D from (outer ++ o ∷ []) lines → (E : Domains) × (since : ℕ) × IsSplitAt n S E since o
innermost Q n S o [] D from lines h = (D, from, h.0)
innermost Q n S o (b ∷ outer) D from lines h = innermost Q n S o outer (narrowed D (Split b.p b.x) (side_in b.in_second)) b.mark.len h.2 h.5

-- past the first side of a split one tree less is open
left_by : (second : Bool) (first rest more : List Line) (k count : ℕ) → IsFirstSide second first → ((i : ℕ) → after_trees (suc i) (rest ++ more) ≡ after_trees (suc (count + i)) more) → after_trees (suc (suc k)) (first ++ (rest ++ more)) ≡ after_trees (suc (cond (not second) 1 0 + count + k)) more
left_by true first rest more k count t inner =
    ap (λ ls. after_trees (suc (suc k)) (ls ++ (rest ++ more))) (sym t.1) ∙ tree_is_read t.0 (suc k) (rest ++ more) ∙ inner k
    ∙ ap (λ i. after_trees (suc (i + k)) more) (sym (zero-add count))
left_by false first rest more k count none inner =
    let e : count + suc k ≡ 1 + count + k = omega arith in
    ap (λ ls. after_trees (suc (suc k)) (ls ++ (rest ++ more))) none ∙ inner (suc k) ∙ ap (λ i. after_trees (suc i) more) e

-- the trees that are still open are those of the first sides, and one
pub trees_left : (n : ℕ) (S : Store) (splits : List OpenSplit) (D : Domains) (from : ℕ) (lines : List Line) → InSplits NoLines n S D from splits lines → (k : ℕ) (more : List Line) → after_trees (suc k) (lines ++ more) ≡ after_trees (suc (second_sides_to_come splits + k)) more
trees_left n S [] D from lines h k more =
    ap (λ ls. after_trees (suc k) (ls ++ more)) h.2 ∙ ap (λ i. after_trees (suc i) more) (sym (zero-add k))
trees_left n S (o ∷ splits) D from lines h k more =
    ap (λ ls. after_trees (suc k) (ls ++ more)) h.3 ∙ ap (after_trees (suc (suc k))) (append_assoc h.1 h.2 more)
    ∙ left_by o.in_second h.1 h.2 more k (second_sides_to_come splits) h.4 (λ i. trees_left n S splits (narrowed D (Split o.p o.x) (side_in o.in_second)) o.mark.len h.2 h.5 i more)
    ∙ ap (λ i. after_trees (suc (i + k)) more) (sym (sum_by-cons (λ b. cond (not b.in_second) 1 0) o splits))

-- so inside splits no whole tree was read
pub not_whole : (n : ℕ) (S : Store) (splits : List OpenSplit) (D : Domains) (from : ℕ) (lines : List Line) → InSplits NoLines n S D from splits lines → after_trees 1 lines ≡ None
not_whole n S splits D from lines h = ap (after_trees 1) (sym (append-nil lines)) ∙ trees_left n S splits D from lines h 0 []

side_by : (second : Bool) (first rest : List Line) → IsFirstSide second first → after_trees 1 rest ≡ None → side (first ++ rest) ≡ side_in second
side_by true first rest t none = in_second (first ++ rest) rest (past_front first rest t) none
side_by false first rest e none = ap (λ ls. side (ls ++ rest)) e ∙ in_first rest none

leaves_by : (second : Bool) (first rest : List Line) (p z : ℕ) → IsFirstSide second first → lines_leave (first ++ rest) p z ≡ lines_leave rest p z
leaves_by true first rest p z t = ap (λ ls. lines_leave (ls ++ rest) p z) (sym t.1) ∙ tree_leaves_all t.0 rest p z
leaves_by false first rest p z e = ap (λ ls. lines_leave (ls ++ rest) p z) e

-- the store has what the lines leave of the domains
pub left_there : (n : ℕ) (S : Store) (splits : List OpenSplit) (D : Domains) (from : ℕ) (lines : List Line) → InSplits NoLines n S D from splits lines → (p z : ℕ) → p < n → has_domain S p z ≡ (D p z && lines_leave lines p z)
left_there n S [] D from lines h p z lt = h.1 p z lt ∙ sym (ap (λ ls. D p z && lines_leave ls p z) h.2 ∙ and-true (D p z))
left_there n S (o ∷ splits) D from lines h p z lt =
    let leaves : Bool = line_leaves (Split o.p o.x) (side_in o.in_second) p z in
    let E = narrowed D (Split o.p o.x) (side_in o.in_second) in
    let none : after_trees 1 h.2 ≡ None = not_whole n S splits E o.mark.len h.2 h.5 in
    left_there n S splits E o.mark.len h.2 h.5 p z lt
    ∙ and_assoc (D p z) leaves (lines_leave h.2 p z)
    ∙ ap (λ b. D p z && (leaves && b)) (sym (leaves_by o.in_second h.1 h.2 p z h.4))
    ∙ ap (λ s. D p z && (line_leaves (Split o.p o.x) s p z && lines_leave (h.1 ++ h.2) p z)) (sym (side_by o.in_second h.1 h.2 h.4 none))
    ∙ ap (λ ls. D p z && lines_leave ls p z) (sym h.3)

-- and behind a whole tree it has the domains before it
tree_leaves : (lines : List Line) (p z : ℕ) → IsTree lines → lines_leave lines p z ≡ true
tree_leaves lines p z t = ap (λ ls. lines_leave ls p z) (sym t.1 ∙ sym (append-nil (lines_in t.0))) ∙ tree_leaves_all t.0 [] p z

pub read_leaves : (whole : Bool) (n : ℕ) (S : Store) (D : Domains) (splits : List OpenSplit) (lines : List Line) → HasRead whole n S D splits lines → (p z : ℕ) → p < n → has_domain S p z ≡ (D p z && lines_leave lines p z)
read_leaves true n S D splits lines h p z lt = h.1.1 p z lt ∙ sym (ap (λ b. D p z && b) (tree_leaves lines p z h.1.2) ∙ and-true (D p z))
read_leaves false n S D splits lines h p z lt = left_there n S splits D 0 lines h p z lt

whole_tree : (lines : List Line) → IsTree lines → after_trees 1 lines ≡ Some []
whole_tree lines t = ap (after_trees 1) (sym t.1) ∙ tree_is_whole t.0

pub read_is_tree : (whole : Bool) (n : ℕ) (S : Store) (D : Domains) (splits : List OpenSplit) (lines : List Line) → HasRead whole n S D splits lines → (whole ≡ true) ↔ IsTree lines
read_is_tree true n S D splits lines h = ((λ e. h.1.2), (λ t. refl))
read_is_tree false n S D splits lines h = (
  (λ e. absurd (cc)),
  (λ t. let clash : None ≡ Some [] = sym (not_whole n S splits D 0 lines h) ∙ whole_tree lines t in absurd (cc)),
)

pub read_whole : (n : ℕ) (S : Store) (D : Domains) (splits : List OpenSplit) (lines rest : List Line) → HasRead true n S D splits lines → after_trees 1 (lines ++ rest) ≡ after_trees 0 rest
read_whole n S D splits lines rest h = past_front lines rest h.1.2

pub read_part : (n : ℕ) (S : Store) (D : Domains) (splits : List OpenSplit) (lines rest : List Line) → HasRead false n S D splits lines → after_trees 1 (lines ++ rest) ≡ after_trees (second_sides_to_come splits + 1) rest
read_part n S D splits lines rest h =
    let e : suc (second_sides_to_come splits + 0) ≡ second_sides_to_come splits + 1 = omega arith in
    trees_left n S splits D 0 lines h 0 rest ∙ ap (λ i. after_trees i rest) e

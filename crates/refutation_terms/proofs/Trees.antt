-- Trees and their lines: a walk from the front reads whole trees.
use Rattle.std.proofs.Common.{◌≡◌, ◌⊎◌, ℕ, zero, suc, ◌+◌, ◌-◌, ◌<◌, ◌≤◌, List, [], ◌∷◌, ◌++◌, length, take, Some, None, refl, ap, sym, ◌∙◌, append_assoc, arith, length-append, inl, inr}
use Rattle.std.proofs.lemmas.List.{append-nil, take-append-le}
use Rattle.std.proofs.Math.Seq.{take-append-add}
use Rattle.std.proofs.lemmas.Bool.{cases_lt}
use Rattle.refutation_terms.specs.declared.lines.Line.{Line}
use Rattle.refutation_terms.specs.declared.lines.Line.TheVariants.{Split}
use Rattle.refutation_terms.specs.Tree.{IsLeaf, Tree, Leaf, Node, lines_in, IsTree, after_trees}

leaf_is_read : (line : Line) → IsLeaf line → (n : ℕ) (rest : List Line) → after_trees (suc n) (line ∷ rest) ≡ after_trees n rest
leaf_is_read (Split p x) h n rest = absurd h
leaf_is_read leaf h n rest = refl

-- a tree in front is read whole
pub tree_is_read : (t : Tree) (n : ℕ) (rest : List Line) → after_trees (suc n) (lines_in t ++ rest) ≡ after_trees n rest
tree_is_read (Leaf line h) n rest = leaf_is_read line h n rest
tree_is_read (Node p x a b) n rest =
    ap (after_trees (suc (suc n))) (append_assoc (lines_in a) (lines_in b) rest) ∙ tree_is_read a (suc n) (lines_in b ++ rest) ∙ tree_is_read b n rest

-- a tree in front, and what follows it
abbrev pub Front : List Line → ℕ → List Line → Type 0
Front lines n rest = (t : Tree) × (left : List Line) × (lines ≡ lines_in t ++ left) × (after_trees n left ≡ Some rest)

-- what is read as whole trees has a tree in front; by fuel for the length
front : (fuel : ℕ) (lines : List Line) (n : ℕ) (rest : List Line) → length lines ≤ fuel → after_trees (suc n) lines ≡ Some rest → Front lines n rest
front fuel [] n rest le h = absurd (cc)
front zero (line ∷ lines) n rest le h = absurd (omega (arith, le))
front (suc fuel) (Split p x ∷ lines) n rest le h =
    let a = front fuel lines (suc n) rest (omega (arith, le)) h in
    let b = front fuel a.1 n rest (omega (arith, le, ap length a.2, length-append (lines_in a.0) a.1)) a.3 in
    (Node p x a.0 b.0, b.1, ap (λ ls. Split p x ∷ ls) (a.2 ∙ ap (λ ls. lines_in a.0 ++ ls) b.2 ∙ sym (append_assoc (lines_in a.0) (lines_in b.0) b.1)), b.3)
front (suc fuel) (leaf ∷ lines) n rest le h = (Leaf leaf tt, lines, refl, h)

pub front_tree : (lines : List Line) (n : ℕ) (rest : List Line) → after_trees (suc n) lines ≡ Some rest → Front lines n rest
front_tree lines n rest h = let le : length lines ≤ length lines = omega arith in front (length lines) lines n rest le h

-- one tree in front, and the rest
pub one_in_front : (lines rest : List Line) → after_trees 1 lines ≡ Some rest → (t : Tree) × (lines ≡ lines_in t ++ rest)
one_in_front lines rest h =
    let f = front_tree lines 0 rest h in
    let same : f.1 ≡ rest = let e : Some f.1 ≡ Some rest = f.3 in cc in
    (f.0, f.2 ∙ ap (λ ls. lines_in f.0 ++ ls) same)

-- what follows two whole trees in front is what follows one behind the first
pub two_in_front : (lines rest : List Line) → after_trees 1 lines ≡ Some rest → after_trees 2 lines ≡ after_trees 1 rest
two_in_front lines rest h = let f = one_in_front lines rest h in ap (after_trees 2) f.1 ∙ tree_is_read f.0 1 rest

pub tree_is_whole : (t : Tree) → after_trees 1 (lines_in t) ≡ Some []
tree_is_whole t = ap (after_trees 1) (sym (append-nil (lines_in t))) ∙ tree_is_read t 0 []

-- a walk that ends with the lines has read a tree
pub whole_is_tree : (lines : List Line) → after_trees 1 lines ≡ Some [] → IsTree lines
whole_is_tree lines h =
    let f = one_in_front lines [] h in
    (f.0, sym (f.1 ∙ append-nil (lines_in f.0)))

pub tree_has_lines : (t : Tree) → 0 < length (lines_in t)
tree_has_lines (Leaf line h) = omega arith
tree_has_lines (Node p x a b) = omega arith

part_is_not_whole_by : (a b : List Line) (n k : ℕ) → ((k : ℕ) → k < length a → after_trees (suc (suc n)) (take k a) ≡ None) → ((rest : List Line) → after_trees (suc (suc n)) (a ++ rest) ≡ after_trees (suc n) rest) → ((k : ℕ) → k < length b → after_trees (suc n) (take k b) ≡ None) → k < length (a ++ b) → (k < length a) ⊎ (length a ≤ k) → after_trees (suc (suc n)) (take k (a ++ b)) ≡ None
part_is_not_whole_by a b n k in_a past_a in_b lt (inl less) =
    ap (after_trees (suc (suc n))) (take-append-le k a b (omega (arith, less))) ∙ in_a k less
part_is_not_whole_by a b n k in_a past_a in_b lt (inr more) =
    let e : k ≡ length a + (k - length a) = omega (arith, more) in
    let less : k - length a < length b = omega (arith, more, lt, length-append a b) in
    ap (λ i. after_trees (suc (suc n)) (take i (a ++ b))) e ∙ ap (after_trees (suc (suc n))) (take-append-add a b (k - length a)) ∙ past_a (take (k - length a) b) ∙ in_b (k - length a) less

-- no front of a tree is a whole tree but the tree
pub part_is_not_whole : (t : Tree) (n k : ℕ) → k < length (lines_in t) → after_trees (suc n) (take k (lines_in t)) ≡ None
part_is_not_whole (Leaf line h) n zero lt = refl
part_is_not_whole (Leaf line h) n (suc k) lt = absurd (omega (arith, lt))
part_is_not_whole (Node p x a b) n zero lt = refl
part_is_not_whole (Node p x a b) n (suc k) lt =
    part_is_not_whole_by (lines_in a) (lines_in b) n k (λ i less. part_is_not_whole a (suc n) i less) (tree_is_read a (suc n)) (λ i less. part_is_not_whole b n i less) (omega (arith, lt)) (cases_lt k (length (lines_in a)))

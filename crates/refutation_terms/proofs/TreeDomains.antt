-- The domains at the lines of a tree, side by side.
use Rattle.std.proofs.Common.{◌≡◌, ℕ, zero, suc, ◌+◌, ◌<◌, List, [], ◌∷◌, ◌++◌, length, take, Some, None, refl, ap, sym, ◌∙◌, subst, append_assoc, arith, Bool, true, false, ◌&&◌, ◌==◌, not}
use Rattle.std.specs.Prelude.{slice_get}
use Rattle.std.proofs.Math.Path.{fun_ext}
use Rattle.std.proofs.Math.Bool.{and_assoc, and-true, or-true}
use Rattle.std.proofs.lemmas.List.{take-append-le}
use Rattle.std.proofs.Math.Seq.{take-append-add}
use Rattle.std.proofs.lemmas.Option.{slice_get_within}
use Rattle.rwsp_terms.specs.declared.data.Symbol.{Symbol}
use Rattle.refutation_terms.specs.declared.lines.Line.{Line}
use Rattle.refutation_terms.specs.declared.lines.Line.TheVariants.{Split}
use Rattle.refutation_terms.specs.Word.{Domains}
use Rattle.refutation_terms.specs.Tree.{IsLeaf, Tree, Leaf, Node, lines_in, after_trees, Side, First, Second, Neither, side, side_of, line_leaves, lines_leave, narrowed}
use Rattle.refutation_terms.proofs.Trees.{tree_is_read, two_in_front, part_is_not_whole}

-- domains behind some lines
abbrev pub behind : Domains → List Line → Domains
behind D lines p z = D p z && lines_leave lines p z

pub same_domains : (D E : Domains) → ((p z : ℕ) → D p z ≡ E p z) → D ≡ E
same_domains D E h = fun_ext (λ p. fun_ext (λ z. h p z))

pub behind_none : (D : Domains) → behind D [] ≡ D
behind_none D = same_domains (behind D []) D (λ p z. and-true (D p z))

-- lines with no whole tree in front are in the first side
pub in_first : (between : List Line) → after_trees 1 between ≡ None → side between ≡ First
in_first between h = ap (λ o. side_of o (after_trees 2 between)) h

-- lines with one whole tree in front and then none are in the second side
pub in_second : (between rest : List Line) → after_trees 1 between ≡ Some rest → after_trees 1 rest ≡ None → side between ≡ Second
in_second between rest h e = ap (λ o. side_of o (after_trees 2 between)) h ∙ ap (side_of (Some rest)) (two_in_front between rest h ∙ e)

-- lines with two whole trees in front are in neither
pub in_neither : (between rest left : List Line) → after_trees 1 between ≡ Some rest → after_trees 1 rest ≡ Some left → side between ≡ Neither
in_neither between rest left h e = ap (λ o. side_of o (after_trees 2 between)) h ∙ ap (side_of (Some rest)) (two_in_front between rest h ∙ e)

leaf_leaves : (line : Line) → IsLeaf line → (a : Side) (p z : ℕ) → line_leaves line a p z ≡ true
leaf_leaves (Split q x) h a p z = absurd h
leaf_leaves leaf h a p z = refl

left_true : (a b : Bool) → a ≡ true → (a && b) ≡ b
left_true true b h = refl
left_true false b h = absurd (cc)

split_leaves : (q : ℕ) (x : Symbol) (a : Side) (p z : ℕ) → a ≡ Neither → line_leaves (Split q x) a p z ≡ true
split_leaves q x a p z e = ap (λ s. line_leaves (Split q x) s p z) e ∙ or-true (not (q == p))

-- the lines of a whole tree leave later lines as they were
pub tree_leaves_all : (t : Tree) (rest : List Line) (p z : ℕ) → lines_leave (lines_in t ++ rest) p z ≡ lines_leave rest p z
tree_leaves_all (Leaf line h) rest p z = left_true (line_leaves line (side rest) p z) (lines_leave rest p z) (leaf_leaves line h (side rest) p z)
tree_leaves_all (Node q x a b) rest p z =
    let whole : lines_in a ++ lines_in b ++ rest ≡ lines_in a ++ (lines_in b ++ rest) = append_assoc (lines_in a) (lines_in b) rest in
    let past : side (lines_in a ++ lines_in b ++ rest) ≡ Neither =
    in_neither (lines_in a ++ lines_in b ++ rest) (lines_in b ++ rest) rest (ap (after_trees 1) whole ∙ tree_is_read a 0 (lines_in b ++ rest)) (tree_is_read b 0 rest) in
    left_true (line_leaves (Split q x) (side (lines_in a ++ lines_in b ++ rest)) p z) (lines_leave (lines_in a ++ lines_in b ++ rest) p z) (split_leaves q x (side (lines_in a ++ lines_in b ++ rest)) p z past)
    ∙ ap (λ ls. lines_leave ls p z) whole ∙ tree_leaves_all a (lines_in b ++ rest) p z ∙ tree_leaves_all b rest p z

-- behind a split and some lines that are in its first side, or in its second
behind_split : (D : Domains) (q : ℕ) (x : Symbol) (between rest : List Line) (a : Side) → side between ≡ a → ((p z : ℕ) → lines_leave between p z ≡ lines_leave rest p z) → behind D (Split q x ∷ between) ≡ behind (narrowed D (Split q x) a) rest
behind_split D q x between rest a e same =
    same_domains (behind D (Split q x ∷ between)) (behind (narrowed D (Split q x) a) rest)
    (λ p z. ap (λ b. D p z && (line_leaves (Split q x) (side between) p z && b)) (same p z) ∙ ap (λ s. D p z && (line_leaves (Split q x) s p z && lines_leave rest p z)) e ∙ sym (and_assoc (D p z) (line_leaves (Split q x) a p z) (lines_leave rest p z)))

pub behind_first : (D : Domains) (q : ℕ) (x : Symbol) (a b : Tree) (k : ℕ) → k < length (lines_in a) → behind D (take (suc k) (lines_in (Node q x a b))) ≡ behind (narrowed D (Split q x) First) (take k (lines_in a))
behind_first D q x a b k lt =
    let cut : take k (lines_in a ++ lines_in b) ≡ take k (lines_in a) = take-append-le k (lines_in a) (lines_in b) (omega (arith, lt)) in
    ap (λ ls. behind D (Split q x ∷ ls)) cut
    ∙ behind_split D q x (take k (lines_in a)) (take k (lines_in a)) First (in_first (take k (lines_in a)) (part_is_not_whole a 0 k lt)) (λ p z. refl)

pub behind_second : (D : Domains) (q : ℕ) (x : Symbol) (a b : Tree) (k : ℕ) → k < length (lines_in b) → behind D (take (suc (length (lines_in a) + k)) (lines_in (Node q x a b))) ≡ behind (narrowed D (Split q x) Second) (take k (lines_in b))
behind_second D q x a b k lt =
    let cut : take (length (lines_in a) + k) (lines_in a ++ lines_in b) ≡ lines_in a ++ take k (lines_in b) = take-append-add (lines_in a) (lines_in b) k in
    ap (λ ls. behind D (Split q x ∷ ls)) cut
    ∙ behind_split D q x (lines_in a ++ take k (lines_in b)) (take k (lines_in b)) Second
    (in_second (lines_in a ++ take k (lines_in b)) (take k (lines_in b)) (tree_is_read a 0 (take k (lines_in b))) (part_is_not_whole b 0 k lt))
    (λ p z. tree_leaves_all a (take k (lines_in b)) p z)

-- a fact of each line of a tree, under the domains that its splits narrow
abbrev pub EachLine : (Domains → Line → Type 0) → Domains → Tree → Type 0
EachLine Q D (Leaf line h) = Q D line
EachLine Q D (Node p x a b) = Q D (Split p x) × EachLine Q (narrowed D (Split p x) First) a × EachLine Q (narrowed D (Split p x) Second) b

-- the same, line by line in their order
abbrev pub EachInOrder : (Domains → Line → Type 0) → Domains → List Line → Type 0
EachInOrder Q D lines = (k : ℕ) (line : Line) → slice_get lines k ≡ Some line → Q (behind D (take k lines)) line

pub got_left : (xs ys : List Line) (k : ℕ) (line : Line) → slice_get xs k ≡ Some line → slice_get (xs ++ ys) k ≡ Some line
got_left [] ys k line h = absurd (cc)
got_left (x ∷ xs) ys zero line h = h
got_left (x ∷ xs) ys (suc k) line h = got_left xs ys k line h

pub got_right : (xs ys : List Line) (k : ℕ) (line : Line) → slice_get ys k ≡ Some line → slice_get (xs ++ ys) (length xs + k) ≡ Some line
got_right [] ys k line h = let e : 0 + k ≡ k = omega arith in ap (slice_get ys) e ∙ h
got_right (x ∷ xs) ys k line h = let e : suc (length xs) + k ≡ suc (length xs + k) = omega arith in ap (slice_get (x ∷ xs ++ ys)) e ∙ got_right xs ys k line h

pub in_tree : (Q : Domains → Line → Type 0) (D : Domains) (t : Tree) → EachInOrder Q D (lines_in t) → EachLine Q D t
in_tree Q D (Leaf line is_leaf) h = subst (λ E. Q E line) (behind_none D) (h 0 line refl)
in_tree Q D (Node p x a b) h = (
  subst (λ E. Q E (Split p x)) (behind_none D) (h 0 (Split p x) refl),
  in_tree Q (narrowed D (Split p x) First) a (λ k line e. subst (λ E. Q E line) (behind_first D p x a b k (slice_get_within (lines_in a) k line e))
      (h (suc k) line (got_left (lines_in a) (lines_in b) k line e))),
  in_tree Q (narrowed D (Split p x) Second) b (λ k line e. subst (λ E. Q E line) (behind_second D p x a b k (slice_get_within (lines_in b) k line e))
      (h (suc (length (lines_in a) + k)) line (got_right (lines_in a) (lines_in b) k line e))),
)

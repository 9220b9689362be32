-- The walk from the front against the words: trees, sides, and the domains at a line.
use Rattle.std.proofs.Common.{◌≡◌, ◌≢◌, ◌⊎◌, ℕ, List, [], ◌∷◌, ◌++◌, take, Option, Some, None, refl, ap, sym, ◌∙◌, subst, inl, inr, IsTrue, ◌==◌}
use Rattle.std.proofs.lemmas.Bool.{eqb-true, eq-eqb, eqb-false, ne_eqb}
use Rattle.rwsp_terms.specs.declared.data.Symbol.{Symbol}
use Rattle.refutation_terms.specs.declared.lines.Line.{Line}
use Rattle.refutation_terms.specs.declared.lines.Line.TheVariants.{Split}
use Rattle.refutation_terms.specs.Tree.{Tree, Leaf, Node, lines_in, IsTree, after_trees, Side, First, Second, Neither, side, side_of, InFirst, InSecond, side_takes, line_leaves, lines_leave, opening}
use Rattle.refutation_terms.specs.Laws.{IsOneLeaf, IsSplitWithTrees, TreesAreAsSaid, WalksReadTrees, SidesAreAsSaid, DomainsAreAsSaid}
use Rattle.refutation_terms.proofs.Tests.{both, left_of, right_of, where_passed, passed_there, not_passed, failed_by_not}
use Rattle.refutation_terms.proofs.Trees.{tree_is_read, tree_is_whole, whole_is_tree, one_in_front, two_in_front}
use Rattle.refutation_terms.proofs.TreeDomains.{in_first, in_second}

tree_as_said : (t : Tree) (lines : List Line) → lines_in t ≡ lines → IsOneLeaf lines ⊎ IsSplitWithTrees lines
tree_as_said (Leaf line h) lines e = inl (line, h, sym e)
tree_as_said (Node p x a b) lines e = inr (p, x, lines_in a, lines_in b, sym e, (a, refl), (b, refl))

said_is_tree : (lines : List Line) → IsOneLeaf lines ⊎ IsSplitWithTrees lines → IsTree lines
said_is_tree lines (inl h) = (Leaf h.0 h.1, sym h.2)
said_is_tree lines (inr h) =
    let a = h.5 in
    let b = h.6 in
    (Node h.0 h.1 a.0 b.0, ap (λ ls. Split h.0 h.1 ∷ ls ++ lines_in b.0) a.1 ∙ ap (λ ls. Split h.0 h.1 ∷ h.2 ++ ls) b.1 ∙ sym h.4)

pub trees_as_said : TreesAreAsSaid
trees_as_said lines = (λ t. tree_as_said t.0 lines t.1, λ h. said_is_tree lines h)

pub walks_read_trees : WalksReadTrees
walks_read_trees lines = (λ h. whole_is_tree lines h, λ t. ap (after_trees 1) (sym t.1) ∙ tree_is_whole t.0)

-- what follows one whole tree in front
pub past_front : (front rest : List Line) → IsTree front → after_trees 1 (front ++ rest) ≡ Some rest
past_front front rest t = ap (λ ls. after_trees 1 (ls ++ rest)) (sym t.1) ∙ tree_is_read t.0 0 rest

none_in_front : (between : List Line) → after_trees 1 between ≡ None → InFirst between
none_in_front between e front rest whole t =
    let some : after_trees 1 between ≡ Some rest = ap (after_trees 1) whole ∙ past_front front rest t in
    let clash : None ≡ Some rest = sym e ∙ some in
    cc

no_tree_read : (between : List Line) → InFirst between → (o : Option (List Line)) → after_trees 1 between ≡ o → o ≡ None
no_tree_read between h None e = refl
no_tree_read between h (Some rest) e =
    let f = one_in_front between rest e in
    absurd (h (lines_in f.0) rest f.1 (f.0, refl))

pub none_read : (between : List Line) → InFirst between → after_trees 1 between ≡ None
none_read between h = no_tree_read between h (after_trees 1 between) refl

first_by : (one two : Option (List Line)) → side_of one two ≡ First → one ≡ None
first_by None two e = refl
first_by (Some rest) None e = absurd (cc)
first_by (Some rest) (Some left) e = absurd (cc)

second_by : (one two : Option (List Line)) → side_of one two ≡ Second → (rest : List Line) × (one ≡ Some rest) × (two ≡ None)
second_by None two e = absurd (cc)
second_by (Some rest) None e = (rest, refl, refl)
second_by (Some rest) (Some left) e = absurd (cc)

second_in_words : (between : List Line) → side between ≡ Second → InSecond between
second_in_words between e =
    let h = second_by (after_trees 1 between) (after_trees 2 between) e in
    let f = one_in_front between h.0 h.1 in
    (lines_in f.0, h.0, f.1, (f.0, refl), none_in_front h.0 (sym (two_in_front between h.0 h.1) ∙ h.2))

second_from_words : (between : List Line) → InSecond between → side between ≡ Second
second_from_words between h =
    in_second between h.1 (ap (after_trees 1) h.2 ∙ past_front h.0 h.1 h.3) (none_read h.1 h.4)

pub sides_as_said : SidesAreAsSaid
sides_as_said between = (
  (λ e. none_in_front between (first_by (after_trees 1 between) (after_trees 2 between) e), λ h. in_first between (none_read between h)),
  (second_in_words between, second_from_words between),
)

-- what all splits among some lines leave of a position
abbrev SplitsTake : List Line → ℕ → ℕ → Type 0
SplitsTake lines p z = (before between : List Line) (x : Symbol) → lines ≡ before ++ Split p x ∷ between → IsTrue (side_takes (side between) (z == x.number))

split_takes : (q : ℕ) (x : Symbol) (a : Side) (p z : ℕ) → q ≡ p → IsTrue (line_leaves (Split q x) a p z) → IsTrue (side_takes a (z == x.number))
split_takes q x a p z e h = passed_there (q == p) (side_takes a (z == x.number)) (eq-eqb q p e) h

leaves-splits : (lines : List Line) (p z : ℕ) → IsTrue (lines_leave lines p z) → SplitsTake lines p z
leaves-splits lines p z h [] between x e =
    split_takes p x (side between) p z refl (left_of (line_leaves (Split p x) (side between) p z) (lines_leave between p z) (subst (λ ls. IsTrue (lines_leave ls p z)) e h))
leaves-splits lines p z h (line ∷ before) between x e =
    leaves-splits (before ++ Split p x ∷ between) p z
    (right_of (line_leaves line (side (before ++ Split p x ∷ between)) p z) (lines_leave (before ++ Split p x ∷ between) p z) (subst (λ ls. IsTrue (lines_leave ls p z)) e h)) before between x refl

line_takes : (line : Line) (later : List Line) (p z : ℕ) → SplitsTake (line ∷ later) p z → IsTrue (line_leaves line (side later) p z)
line_takes (Split q x) later p z h =
    where_passed (q == p) (side_takes (side later) (z == x.number)) (λ e. h [] later x (ap (λ r. Split r x ∷ later) (eqb-true q p e)))
line_takes leaf later p z h = refl

splits-leave : (lines : List Line) (p z : ℕ) → SplitsTake lines p z → IsTrue (lines_leave lines p z)
splits-leave [] p z h = refl
splits-leave (line ∷ later) p z h =
    both (line_leaves line (side later) p z) (lines_leave later p z) (line_takes line later p z h)
    (splits-leave later p z (λ before between x e. h (line ∷ before) between x (ap (λ ls. line ∷ ls) e)))

-- the same by the words for the sides
abbrev SideSays : List Line → ℕ → Symbol → Type 0
SideSays between z x = (InFirst between → z ≡ x.number) × (InSecond between → z ≢ x.number)

takes-says : (between : List Line) (z : ℕ) (x : Symbol) → IsTrue (side_takes (side between) (z == x.number)) → SideSays between z x
takes-says between z x h = (
  λ first. eqb-true z x.number (subst (λ a. IsTrue (side_takes a (z == x.number))) ((sides_as_said between).0.1 first) h),
  λ second. eqb-false z x.number (failed_by_not (z == x.number) (subst (λ a. IsTrue (side_takes a (z == x.number))) ((sides_as_said between).1.1 second) h)),
)

says-takes_by : (between : List Line) (z : ℕ) (x : Symbol) → SideSays between z x → (a : Side) → side between ≡ a → IsTrue (side_takes a (z == x.number))
says-takes_by between z x h First e = eq-eqb z x.number (h.0 ((sides_as_said between).0.0 e))
says-takes_by between z x h Second e = not_passed (z == x.number) (ne_eqb z x.number (h.1 ((sides_as_said between).1.0 e)))
says-takes_by between z x h Neither e = refl

pub domains_as_said : DomainsAreAsSaid
domains_as_said P turn lines k p z = (
  λ h. (
    left_of (opening P turn p z) (lines_leave (take k lines) p z) h,
    λ before between x e. takes-says between z x (leaves-splits (take k lines) p z (right_of (opening P turn p z) (lines_leave (take k lines) p z) h) before between x e),
  ),
  λ h. both (opening P turn p z) (lines_leave (take k lines) p z) h.0
      (splits-leave (take k lines) p z (λ before between x e. says-takes_by between z x (h.1 before between x e) (side between) refl)),
)

-- How many leaves a tree can have: no more than there are words over the domains.
use Rattle.std.proofs.Common.{◌≡◌, ◌≢◌, ◌⊎◌, ℕ, zero, suc, ◌+◌, ◌*◌, ◌^◌, ◌<◌, ◌≤◌, [], ◌++◌, length, Some, refl, ap, sym, ◌∙◌, subst, arith, length-append, inl, inr, cond, Bool, true, false, List, IsTrue, ◌&&◌, ◌||◌, ◌==◌, not, count_by, None}
use Rattle.std.specs.List.{range_with_len}
use Rattle.std.proofs.Math.Nat.{mul-add, add-mul, mul-le-mul, mul-pos, pow-suc, pow-zero}
use Rattle.std.proofs.Math.Bool.{and-true}
use Rattle.std.proofs.lemmas.Bool.{cases_eq, cases_lt, ne_eqb, eq-eqb}
use Rattle.std.proofs.lemmas.List.FromFn.{length-range_with_len}
use Rattle.std.proofs.lemmas.List.Sums.{count_by-le-length, sum_by-append, sum_by-cons}
use Rattle.std.proofs.lemmas.Option.{slice_get_within}
use Rattle.rwsp_terms.specs.declared.data.Symbol.{Symbol}
use Rattle.rwsp_terms.specs.Instance.{Instance, cells, shift_count}
use Rattle.rwsp_terms.proofs.Counting.{count_same, count_next}
use Rattle.refutation_terms.specs.declared.lines.Line.{Line}
use Rattle.refutation_terms.specs.declared.lines.Line.TheVariants.{Split, Unfinished}
use Rattle.refutation_terms.specs.declared.lines.Opening.{Opening}
use Rattle.refutation_terms.specs.Word.{Domains}
use Rattle.refutation_terms.specs.Tree.{Tree, IsTree, IsLeaf, Leaf, Node, lines_in, First, Second, lines_leave, narrowed, opening, is_idle}
use Rattle.refutation_terms.specs.Log.{Log, OpeningFits, LineFits, Fits, IsSpent}
use Rattle.refutation_terms.specs.Laws.{HasNoIdleSplit}
use Rattle.refutation_terms.proofs.Tests.{both, left_of}
use Rattle.refutation_terms.proofs.InWords.{there, another}
use Rattle.refutation_terms.proofs.NeverEmpty.{domains_never_empty}
use Rattle.refutation_terms.proofs.TreeDomains.{EachLine, EachInOrder, in_tree}
use Rattle.refutation_terms.proofs.Trees.{tree_has_lines}
use Rattle.roster_search.specs.Laws.{is_leaf, TreesHaveFewLeaves, SpentBudgetsAreSmall}

-- the product of the first n numbers
abbrev product : (ℕ → ℕ) → ℕ → ℕ
product f zero = 1
product f (suc n) = product f n * f n

product_same : (f g : ℕ → ℕ) (n : ℕ) → ((q : ℕ) → q < n → f q ≡ g q) → product f n ≡ product g n
product_same f g zero h = refl
product_same f g (suc n) h =
    let below : product f n ≡ product g n = product_same f g n (λ q lt. h q (omega (arith, lt))) in
    let here : f n ≡ g n = h n (omega arith) in
    ap (λ x. x * f n) below ∙ ap (λ y. product g n * y) here

-- it is additive in each of them
product_parts : (f g h : ℕ → ℕ) (p n : ℕ) → p < n → ((q : ℕ) → q ≢ p → g q ≡ f q) → ((q : ℕ) → q ≢ p → h q ≡ f q) → f p ≡ g p + h p → product f n ≡ product g n + product h n
product_parts f g h p zero lt a b e = absurd (omega (arith, lt))
product_parts f g h p (suc n) lt a b e = elim (cases_eq p n) [
  | inl same ↦
      let at : f n ≡ g n + h n = subst (λ q. f q ≡ g q + h q) same e in
      let first : product f n ≡ product g n = product_same f g n (λ q less. sym (a q (λ is. omega (arith, less, is, same)))) in
      let second : product f n ≡ product h n = product_same f h n (λ q less. sym (b q (λ is. omega (arith, less, is, same)))) in
      ap (λ x. product f n * x) at ∙ mul-add (product f n) (g n) (h n) ∙ ap (λ x. x * g n + product f n * h n) first ∙ ap (λ x. product g n * g n + x * h n) second
  | inr other ↦
      let more : product f n ≡ product g n + product h n = product_parts f g h p n (omega (arith, lt, other)) a b e in
      ap (λ x. x * f n) more ∙ add-mul (product g n) (product h n) (f n)
      ∙ ap (λ x. product g n * x + product h n * f n) (sym (a n (λ is. other (sym is)))) ∙ ap (λ x. product g n * g n + product h n * x) (sym (b n (λ is. other (sym is))))
]

product_some : (f : ℕ → ℕ) (n : ℕ) → ((q : ℕ) → q < n → 0 < f q) → 0 < product f n
product_some f zero h = omega arith
product_some f (suc n) h =
    let below : 0 < product f n = product_some f n (λ q lt. h q (omega (arith, lt))) in
    let here : 0 < f n = h n (omega arith) in
    mul-pos below here

product_most : (f : ℕ → ℕ) (most n : ℕ) → ((q : ℕ) → f q ≤ most) → product f n ≤ most ^ n
product_most f most zero h = let e : most ^ 0 ≡ 1 = pow-zero most in omega (arith, e)
product_most f most (suc n) h =
    let below : product f n ≤ most ^ n = product_most f most n h in
    let here : f n ≤ most = h n in
    let all : product f n * f n ≤ most ^ n * most = mul-le-mul below here in
    let e : most ^ suc n ≡ most ^ n * most = pow-suc most n in
    omega (arith, all, e)

-- how many of the numbers up to the last a domain has
abbrev size_at : ℕ → Domains → ℕ → ℕ
size_at last D p = count_by (D p) (range_with_len 0 (last + 1))

count_parts : (f g h : ℕ → Bool) (a n : ℕ) → ((i : ℕ) → cond (f i) 1 0 ≡ cond (g i) 1 0 + cond (h i) 1 0) → count_by f (range_with_len a n) ≡ count_by g (range_with_len a n) + count_by h (range_with_len a n)
count_parts f g h a zero e = refl
count_parts f g h a (suc n) e =
    let here : cond (f a) 1 0 ≡ cond (g a) 1 0 + cond (h a) 1 0 = e a in
    let more : count_by f (range_with_len (a + 1) n) ≡ count_by g (range_with_len (a + 1) n) + count_by h (range_with_len (a + 1) n) = count_parts f g h (a + 1) n e in
    omega (arith, here, more, count_next f a n, count_next g a n, count_next h a n)

abbrev one_if : Bool → ℕ
one_if b = cond b 1 0

one_of : (b : Bool) → b ≡ true → one_if b ≡ 1
one_of true e = refl
one_of false e = absurd (cc)

some_by : (f : ℕ → Bool) (a n i : ℕ) → (a + 1 ≤ i → 0 < count_by f (range_with_len (a + 1) n)) → a ≤ i → f i ≡ true → (i ≡ a) ⊎ (i ≢ a) → 0 < count_by f (range_with_len a (suc n))
some_by f a n i later le e (inl same) = omega (arith, count_next f a n, one_of (f a) (subst (λ k. f k ≡ true) same e))
some_by f a n i later le e (inr other) = omega (arith, count_next f a n, later (omega (arith, le, other)))

count_some : (f : ℕ → Bool) (a n i : ℕ) → a ≤ i → i < a + n → f i ≡ true → 0 < count_by f (range_with_len a n)
count_some f a zero i le lt e = absurd (omega (arith, le, lt))
count_some f a (suc n) i le lt e = some_by f a n i (λ more. count_some f (a + 1) n i more (omega (arith, lt)) e) le e (cases_eq i a)

part_at : (held same : Bool) → cond held 1 0 ≡ cond (held && same) 1 0 + cond (held && not same) 1 0
part_at true true = refl
part_at true false = refl
part_at false same = refl

-- a split parts the domain of its position, and leaves the others
side_elsewhere : (D : Domains) (p q z : ℕ) (test : Bool) → q ≢ p → (D q z && (not (p == q) || test)) ≡ D q z
side_elsewhere D p q z test other = ap (λ b. D q z && (not b || test)) (ne_eqb p q (λ is. other (sym is))) ∙ and-true (D q z)

side_here : (D : Domains) (p z : ℕ) (test : Bool) → (D p z && (not (p == p) || test)) ≡ (D p z && test)
side_here D p z test = ap (λ b. D p z && (not b || test)) (eq-eqb p p refl)

abbrev leaf_count : Tree → ℕ
leaf_count (Leaf line h) = 1
leaf_count (Node p x a b) = leaf_count a + leaf_count b

line_count : (t : Tree) → length (lines_in t) + 1 ≡ 2 * leaf_count t
line_count (Leaf line h) = refl
line_count (Node p x a b) =
    let ea = line_count a in
    let eb = line_count b in
    let long : length (lines_in a ++ lines_in b) ≡ length (lines_in a) + length (lines_in b) = length-append (lines_in a) (lines_in b) in
    omega arith

-- a split that isn't idle
abbrev IsUseful : Instance → Domains → Line → Type 0
IsUseful P D line = (p : ℕ) (x : Symbol) → line ≡ Split p x → LineFits P None false (Split p x) × (is_idle P D p x.number ≡ false)

abbrev HasSome : Instance → Domains → Type 0
HasSome P D = (q : ℕ) → q < cells P → 0 < size_at (shift_count P) D q

record IsParted (P : Instance) (D A B : Domains) (p : ℕ) : Type 0 where
  first : (q : ℕ) → q ≢ p → size_at (shift_count P) A q ≡ size_at (shift_count P) D q
  second : (q : ℕ) → q ≢ p → size_at (shift_count P) B q ≡ size_at (shift_count P) D q
  whole : size_at (shift_count P) D p ≡ size_at (shift_count P) A p + size_at (shift_count P) B p
  some_first : 0 < size_at (shift_count P) A p
  some_second : 0 < size_at (shift_count P) B p

parted : (P : Instance) (D : Domains) (p : ℕ) (x : Symbol) → LineFits P None false (Split p x) → is_idle P D p x.number ≡ false → IsParted P D (narrowed D (Split p x) First) (narrowed D (Split p x) Second) p
parted P D p x fits useful =
    let last : ℕ = shift_count P in
    let A : Domains = narrowed D (Split p x) First in
    let B : Domains = narrowed D (Split p x) Second in
    let here_a : (z : ℕ) → A p z ≡ (D p z && (z == x.number)) = λ z. side_here D p z (z == x.number) in
    let here_b : (z : ℕ) → B p z ≡ (D p z && not (z == x.number)) = λ z. side_here D p z (not (z == x.number)) in
    let held : IsTrue (D p x.number) = there P D p x.number useful in
    let other = another P D p x.number useful in
    let x_small : x.number ≤ last = fits.1 in
    let z_small : other.0 ≤ last = other.1 in
    record {
      first = λ q apart. count_same (A q) (D q) 0 (last + 1) (λ z le lt. side_elsewhere D p q z (z == x.number) apart);
      second = λ q apart. count_same (B q) (D q) 0 (last + 1) (λ z le lt. side_elsewhere D p q z (not (z == x.number)) apart);
      whole = count_parts (D p) (A p) (B p) 0 (last + 1)
          (λ z. part_at (D p z) (z == x.number) ∙ ap (λ b. cond b 1 0 + cond (D p z && not (z == x.number)) 1 0) (sym (here_a z)) ∙ ap (λ b. cond (A p z) 1 0 + cond b 1 0) (sym (here_b z)));
      some_first = count_some (A p) 0 (last + 1) x.number (omega arith) (omega (arith, x_small))
          (here_a x.number ∙ both (D p x.number) (x.number == x.number) held (eq-eqb x.number x.number refl));
      some_second = count_some (B p) 0 (last + 1) other.0 (omega arith) (omega (arith, z_small))
          (here_b other.0 ∙ both (D p other.0) (not (other.0 == x.number)) other.3 (ap not other.2));
    }

side_has_some : (P : Instance) (D A : Domains) (p : ℕ) → HasSome P D → ((q : ℕ) → q ≢ p → size_at (shift_count P) A q ≡ size_at (shift_count P) D q) → 0 < size_at (shift_count P) A p → HasSome P A
side_has_some P D A p some same here q lt = elim (cases_eq q p) [
  | inl e ↦ subst (λ r. 0 < size_at (shift_count P) A r) (sym e) here
  | inr other ↦ subst (λ n. 0 < n) (sym (same q other)) (some q lt)
]

leaves_are_few : (P : Instance) (t : Tree) (D : Domains) → EachLine (IsUseful P) D t → HasSome P D → leaf_count t ≤ product (size_at (shift_count P) D) (cells P)
leaves_are_few P (Leaf line h) D each some =
    let positive : 0 < product (size_at (shift_count P) D) (cells P) = product_some (size_at (shift_count P) D) (cells P) some in
    omega (arith, positive)
leaves_are_few P (Node p x a b) D each some =
    let A : Domains = narrowed D (Split p x) First in
    let B : Domains = narrowed D (Split p x) Second in
    let split = each.0 p x refl in
    let parts = parted P D p x split.0 split.1 in
    let first : leaf_count a ≤ product (size_at (shift_count P) A) (cells P) = leaves_are_few P a A each.1 (side_has_some P D A p some parts.first parts.some_first) in
    let second : leaf_count b ≤ product (size_at (shift_count P) B) (cells P) = leaves_are_few P b B each.2 (side_has_some P D B p some parts.second parts.some_second) in
    let whole : product (size_at (shift_count P) D) (cells P) ≡ product (size_at (shift_count P) A) (cells P) + product (size_at (shift_count P) B) (cells P) =
    product_parts (size_at (shift_count P) D) (size_at (shift_count P) A) (size_at (shift_count P) B) p (cells P) split.0.0 parts.first parts.second parts.whole in
    omega (arith, first, second, whole)

size_small : (last : ℕ) (D : Domains) (q : ℕ) → size_at last D q ≤ last + 1
size_small last D q = omega (arith, count_by-le-length (D q) (range_with_len 0 (last + 1)), length-range_with_len 0 (last + 1))

-- the lines of a tree

leaf_passes : (line : Line) → IsLeaf line → is_leaf line ≡ true
leaf_passes (Split p x) h = absurd h
leaf_passes line h = refl

leaves_counted : (t : Tree) → count_by is_leaf (lines_in t) ≡ leaf_count t
leaves_counted (Leaf line h) = sum_by-cons (λ l. cond (is_leaf l) 1 0) line [] ∙ ap (λ b. cond b 1 0 + 0) (leaf_passes line h)
leaves_counted (Node p x a b) =
    let split : count_by is_leaf (lines_in (Node p x a b)) ≡ 0 + count_by is_leaf (lines_in a ++ lines_in b) = sum_by-cons (λ l. cond (is_leaf l) 1 0) (Split p x) (lines_in a ++ lines_in b) in
    let sides : count_by is_leaf (lines_in a ++ lines_in b) ≡ count_by is_leaf (lines_in a) + count_by is_leaf (lines_in b) = sum_by-append (λ l. cond (is_leaf l) 1 0) (lines_in a) (lines_in b) in
    let first : count_by is_leaf (lines_in a) ≡ leaf_count a = leaves_counted a in
    let second : count_by is_leaf (lines_in b) ≡ leaf_count b = leaves_counted b in
    omega (arith, split, sides, first, second)

useful_splits : (P : Instance) (g : Log) → Fits P g → HasNoIdleSplit P g.opening g.lines (length g.lines) → EachInOrder (IsUseful P) (opening P g.opening) g.lines
useful_splits P g fits none k line e p x is = (
  subst (LineFits P g.goal g.counts) is (fits.lines k line e),
  none k p x (slice_get_within g.lines k line e) (e ∙ ap (λ (l : Line). Some l) is),
)

opening_has_some : (P : Instance) (start : Opening) (lines : List Line) → OpeningFits P start → IsTree lines → 0 < length lines → HasSome P (opening P start)
opening_has_some P start lines fits tree lt q inside =
    let D : Domains = opening P start in
    let all = domains_never_empty P start lines 0 fits tree lt (λ i p x less. absurd (omega (arith, less))) in
    let one = all.some q inside in
    let small : one.0 ≤ shift_count P = all.symbols q one.0 inside one.1 in
    count_some (D q) 0 (shift_count P + 1) one.0 (omega arith) (omega (arith, small)) (left_of (D q one.0) (lines_leave [] q one.0) one.1)

-- at most as many leaves as there are assignments
tree_is_small : (P : Instance) (g : Log) (tree : IsTree g.lines) → Fits P g → HasNoIdleSplit P g.opening g.lines (length g.lines) → leaf_count tree.0 ≤ (shift_count P + 1) ^ cells P
tree_is_small P g tree fits none =
    let t : Tree = tree.0 in
    let D : Domains = opening P g.opening in
    let each : EachLine (IsUseful P) D t = in_tree (IsUseful P) D t (subst (EachInOrder (IsUseful P) D) (sym tree.1) (useful_splits P g fits none)) in
    let lines : 0 < length g.lines = subst (λ (ls : List Line). 0 < length ls) tree.1 (tree_has_lines t) in
    let few : leaf_count t ≤ product (size_at (shift_count P) D) (cells P) = leaves_are_few P t D each (opening_has_some P g.opening g.lines fits.opening tree lines) in
    let most : product (size_at (shift_count P) D) (cells P) ≤ (shift_count P + 1) ^ cells P = product_most (size_at (shift_count P) D) (shift_count P + 1) (cells P) (size_small (shift_count P) D) in
    omega (arith, few, most)

pub few_leaves : TreesHaveFewLeaves
few_leaves P g fits tree none =
    let counted : count_by is_leaf (lines_in tree.0) ≡ leaf_count tree.0 = leaves_counted tree.0 in
    let same : count_by is_leaf (lines_in tree.0) ≡ count_by is_leaf g.lines = ap (count_by is_leaf) tree.1 in
    let few = tree_is_small P g tree fits none in
    omega (arith, counted, same, few)

-- no split of a spent log is idle: it holds, or is unfinished and no split
spent_none_idle : (P : Instance) (g : Log) (budget : ℕ) → IsSpent P g budget → HasNoIdleSplit P g.opening g.lines (length g.lines)
spent_none_idle P g budget s k p x inside at =
    elim (cases_lt k budget) [
      | inl early ↦ s.holds k (Split p x) early at
      | inr late ↦ let clash : Split p x ≡ Unfinished = s.rest k (Split p x) late at in absurd (cc)
    ]

pub spent_budgets_small : SpentBudgetsAreSmall
spent_budgets_small P g budget s =
    let few = tree_is_small P g s.tree s.grounded.fits (spent_none_idle P g budget s) in
    let lines : length (lines_in s.tree.0) + 1 ≡ 2 * leaf_count s.tree.0 = line_count s.tree.0 in
    let same : length (lines_in s.tree.0) ≡ length g.lines = ap length s.tree.1 in
    let more : budget < length g.lines = s.unfinished in
    omega (arith, few, lines, same, more)

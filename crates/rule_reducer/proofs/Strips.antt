-- What a strip leaves as it was: the tree, its domains, and that the log fits.
use Rattle.std.proofs.Common.{◌≡◌, ℕ, zero, suc, ◌<◌, ◌≤◌, List, [], ◌∷◌, ◌++◌, length, take, map, refl, ap, sym, ◌∙◌, subst, Some, None, Option, Bool, not, ◌==◌, ◌&&◌}
use Rattle.std.specs.Prelude.{slice_get}
use Rattle.std.specs.Option.{option_map}
use Rattle.std.proofs.lemmas.List.{take-map}
use Rattle.std.proofs.lemmas.Option.{slice_get-map}
use Rattle.std.proofs.lemmas.List.Elements.{All-filter}
use Rattle.std.proofs.lemmas.List.Kept.{AllPairs-filter, IsStrictlyIncreasing-filter}
use Rattle.rwsp_terms.specs.declared.data.Weight.{Weight}
use Rattle.rwsp_terms.specs.declared.data.Rule.{Rule}
use Rattle.rwsp_terms.specs.declared.data.Rule.TheVariants as TheRules
use Rattle.rwsp_terms.specs.Instance.{Instance, IsDay, IsSymbol}
use Rattle.rwsp_terms.specs.Rules.{rule_of, rules}
use Rattle.rwsp_terms.specs.Weights.{ComesBefore, IsWeight}
use Rattle.refutation_terms.specs.declared.lines.Line.{Line}
use Rattle.refutation_terms.specs.declared.lines.Line.TheVariants.{Split, Closing}
use Rattle.refutation_terms.specs.declared.lines.Leaf.TheVariants.{Words}
use Rattle.refutation_terms.specs.declared.lines.WordClaim.TheVariants.{Dead, Light}
use Rattle.refutation_terms.specs.declared.lines.Opening.{Opening}
use Rattle.refutation_terms.specs.Tree.{IsLeaf, Tree, Leaf, Node, lines_in, IsTree, after_trees, Side, side, side_of, line_leaves, lines_leave, opening, domains_at}
use Rattle.refutation_terms.specs.Log.{Log, LineFits, Fits}
use Rattle.refutation_terms.specs.Ranges.{AreRules, AreWeightsOf}
use Rattle.refutation_terms.specs.Strip.{without_rule, without_day, strip_line, strip}
use Rattle.refutation_terms.proofs.TreeDomains.{same_domains}

-- the tree

leaf_stays : (P : Instance) (n : ℕ) (line : Line) → IsLeaf line → IsLeaf (strip_line P n line)
leaf_stays P n (Split p x) h = h
leaf_stays P n (Closing (Words p R claim)) h = h
leaf_stays P n line h = h

mapped_append : (f : Line → Line) (xs ys : List Line) → map f (xs ++ ys) ≡ map f xs ++ map f ys
mapped_append f [] ys = refl
mapped_append f (x ∷ xs) ys = ap (λ l. f x ∷ l) (mapped_append f xs ys)

lines_stay : (P : Instance) (n : ℕ) (t : Tree) → IsTree (map (strip_line P n) (lines_in t))
lines_stay P n (Leaf line is) = (Leaf (strip_line P n line) (leaf_stays P n line is), refl)
lines_stay P n (Node p x a b) =
    let f = strip_line P n in
    let left = lines_stay P n a in
    let right = lines_stay P n b in (
      Node p x left.0 right.0,
      ap (λ l. Split p x ∷ l)
          (ap (λ l. l ++ lines_in right.0) left.1 ∙ ap (λ l. map f (lines_in a) ++ l) right.1 ∙ sym (mapped_append f (lines_in a) (lines_in b))),
    )

pub tree_stays : (P : Instance) (n : ℕ) (lines : List Line) → IsTree lines → IsTree (map (strip_line P n) lines)
tree_stays P n lines t = subst (λ l. IsTree (map (strip_line P n) l)) t.1 (lines_stay P n t.0)

-- the domains

after_stays : (P : Instance) (n count : ℕ) (lines : List Line) → after_trees count (map (strip_line P n) lines) ≡ option_map (map (strip_line P n)) (after_trees count lines)
after_stays P n zero lines = refl
after_stays P n (suc count) [] = refl
after_stays P n (suc count) (Split p x ∷ lines) = after_stays P n (suc (suc count)) lines
after_stays P n (suc count) (Closing (Words p R claim) ∷ lines) = after_stays P n count lines
after_stays P n (suc count) (line ∷ lines) = after_stays P n count lines

side_of_mapped : (f : List Line → List Line) (one two : Option (List Line)) → side_of (option_map f one) (option_map f two) ≡ side_of one two
side_of_mapped f None two = refl
side_of_mapped f (Some rest) None = refl
side_of_mapped f (Some rest) (Some left) = refl

side_stays : (P : Instance) (n : ℕ) (between : List Line) → side (map (strip_line P n) between) ≡ side between
side_stays P n between =
    let f = map (strip_line P n) in
    ap (λ o. side_of o (after_trees 2 (f between))) (after_stays P n 1 between)
    ∙ ap (λ o. side_of (option_map f (after_trees 1 between)) o) (after_stays P n 2 between)
    ∙ side_of_mapped f (after_trees 1 between) (after_trees 2 between)

line_leaves_same : (P : Instance) (n : ℕ) (line : Line) (s : Side) (p z : ℕ) → line_leaves (strip_line P n line) s p z ≡ line_leaves line s p z
line_leaves_same P n (Split q x) s p z = refl
line_leaves_same P n (Closing (Words q R claim)) s p z = refl
line_leaves_same P n line s p z = refl

lines_leave_same : (P : Instance) (n : ℕ) (lines : List Line) (p z : ℕ) → lines_leave (map (strip_line P n) lines) p z ≡ lines_leave lines p z
lines_leave_same P n [] p z = refl
lines_leave_same P n (line ∷ later) p z =
    let f = strip_line P n in
    ap (λ s. line_leaves (f line) s p z && lines_leave (map f later) p z) (side_stays P n later)
    ∙ ap (λ b. b && lines_leave (map f later) p z) (line_leaves_same P n line (side later) p z)
    ∙ ap (λ b. line_leaves line (side later) p z && b) (lines_leave_same P n later p z)

pub domains_stay : (P : Instance) (n : ℕ) (o : Opening) (lines : List Line) (k : ℕ) → domains_at P o (map (strip_line P n) lines) k ≡ domains_at P o lines k
domains_stay P n o lines k =
    same_domains (domains_at P o (map (strip_line P n) lines) k) (domains_at P o lines k)
    (λ p z.
    ap (λ l. opening P o p z && lines_leave l p z) (take-map (strip_line P n) k lines)
    ∙ ap (λ b. opening P o p z && b) (lines_leave_same P n (take k lines) p z))

-- a line of the stripped log, and where it comes from
pub line_after : (P : Instance) (n : ℕ) (lines : List Line) (k : ℕ) (line : Line) → slice_get lines k ≡ Some line → slice_get (map (strip_line P n) lines) k ≡ Some (strip_line P n line)
line_after P n lines k line got = slice_get-map (strip_line P n) lines k ∙ ap (option_map (strip_line P n)) got

pub line_before : (P : Instance) (n : ℕ) (lines : List Line) (k : ℕ) (line : Line) → slice_get (map (strip_line P n) lines) k ≡ Some line → (old : Line) × (slice_get lines k ≡ Some old) × (strip_line P n old ≡ line)
line_before P n lines k line got = from (slice_get lines k) refl
  where
    from : (o : Option Line) → slice_get lines k ≡ o → (old : Line) × (slice_get lines k ≡ Some old) × (strip_line P n old ≡ line)
    from None e =
        let none = sym (slice_get-map (strip_line P n) lines k ∙ ap (option_map (strip_line P n)) e) ∙ got in
        absurd (cc)
    from (Some old) e =
        let some : Some (strip_line P n old) ≡ Some line = sym (slice_get-map (strip_line P n) lines k ∙ ap (option_map (strip_line P n)) e) ∙ got in
        (old, e, let same : strip_line P n old ≡ line = cc in same)

-- the log fits

pub rules_stay : (P : Instance) (n : ℕ) (R : List ℕ) → AreRules P R → AreRules P (without_rule n R)
rules_stay P n R are = (
  IsStrictlyIncreasing-filter (λ k. not (k == n)) R are.0,
  All-filter (λ k. not (k == n)) (λ k. (0 < k) × (k ≤ length (rules P))) R are.1,
)

weights_filtered : (P : Instance) (keep : Weight → Bool) (y : List Weight) → AreWeightsOf P y → AreWeightsOf P (Rattle.std.specs.List.filter keep y)
weights_filtered P keep y are = (
  record {
    ascends = AllPairs-filter ComesBefore keep y are.0.ascends;
    small = All-filter keep IsWeight y are.0.small;
  },
  All-filter keep (λ (e : Weight). IsDay P e.day × IsSymbol P e.symbol) y are.1,
)

weights_stay : (P : Instance) (r : Option Rule) (y : List Weight) → AreWeightsOf P y → AreWeightsOf P (without_day r y)
weights_stay P (Some (TheRules.Day j)) y are = weights_filtered P (λ (e : Weight). not (e.day == j)) y are
weights_stay P other y are = are

pub line_fits_still : (P : Instance) (n : ℕ) (goal : Option ℕ) (counts : Bool) (line : Line) → LineFits P goal counts line → LineFits P goal counts (strip_line P n line)
line_fits_still P n goal counts (Closing (Words p R (Dead len))) h = (h.0, h.1, rules_stay P n R h.2)
line_fits_still P n goal counts (Closing (Words p R (Light turns reward y))) h = (h.0, h.1, rules_stay P n R h.2, weights_stay P (rule_of P n) y h.3, h.4)
line_fits_still P n goal counts line h = h

pub fits_still : (P : Instance) (n : ℕ) (g : Log) → Fits P g → Fits P (strip P n g)
fits_still P n g fits = record {
  named = rules_stay P n g.named fits.named;
  opening = fits.opening;
  goal = fits.goal;
  counts = fits.counts;
  lines = λ k line got.
      let old = line_before P n g.lines k line got in
      subst (LineFits P g.goal g.counts) old.2 (line_fits_still P n g.goal g.counts old.0 (fits.lines k old.0 old.1));
}

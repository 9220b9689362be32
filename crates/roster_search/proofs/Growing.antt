-- Lines with more lines behind them.
use Rattle.std.proofs.Common.{◌≡◌, ◌⊎◌, ℕ, zero, suc, ◌+◌, ◌<◌, ◌≤◌, List, [], ◌∷◌, ◌++◌, length, Option, Some, None, refl, ap, sym, ◌∙◌, subst, append_assoc, arith, inl, inr, true, ◌&&◌}
use Rattle.std.specs.Prelude.{slice_get}
use Rattle.std.proofs.Math.Bool.{and_assoc}
use Rattle.std.proofs.lemmas.List.{take-append-le, take_all}
use Rattle.rwsp_terms.specs.declared.data.Symbol.{Symbol}
use Rattle.rwsp_terms.specs.Instance.{Instance}
use Rattle.refutation_terms.specs.declared.lines.Line.{Line}
use Rattle.refutation_terms.specs.declared.lines.Line.TheVariants.{Split}
use Rattle.refutation_terms.specs.declared.lines.Opening.{Opening}
use Rattle.refutation_terms.specs.Word.{Domains}
use Rattle.refutation_terms.specs.Tree.{IsLeaf, Leaf, after_trees, side, side_of, line_leaves, lines_leave, opening, domains_at}
use Rattle.refutation_terms.proofs.Trees.{tree_is_read}
use Rattle.refutation_terms.proofs.TreeDomains.{behind, tree_leaves_all}
use Rattle.roster_search.specs.Written.{IsSplitWithLeaf}

-- lines in which no tree that was open before ends
abbrev pub EndNone : List Line → Type 0
EndNone more = (n : ℕ) → after_trees (suc n) more ≡ None

none_still : (more : List Line) → EndNone more → (n : ℕ) (ls : List Line) → after_trees n ls ≡ None → after_trees n (ls ++ more) ≡ None
none_still more h zero ls e = absurd (cc)
none_still more h (suc n) [] e = h n
none_still more h (suc n) (Split p x ∷ ls) e = none_still more h (suc (suc n)) ls e
none_still more h (suc n) (leaf ∷ ls) e = none_still more h n ls e

some_still : (more : List Line) (n : ℕ) (ls rest : List Line) → after_trees n ls ≡ Some rest → after_trees n (ls ++ more) ≡ Some (rest ++ more)
some_still more zero ls rest e = let same : ls ≡ rest = cc in ap (λ l. Some (l ++ more)) same
some_still more (suc n) [] rest e = absurd (cc)
some_still more (suc n) (Split p x ∷ ls) rest e = some_still more (suc (suc n)) ls rest e
some_still more (suc n) (leaf ∷ ls) rest e = some_still more n ls rest e

side_same : (more : List Line) (a b c d : Option (List Line)) → (a ≡ None → c ≡ None) → ((r : List Line) → a ≡ Some r → c ≡ Some (r ++ more)) → (b ≡ None → d ≡ None) → ((r : List Line) → b ≡ Some r → d ≡ Some (r ++ more)) → side_of c d ≡ side_of a b
side_same more None b c d an asome bn bsome = ap (λ o. side_of o d) (an refl)
side_same more (Some r) None c d an asome bn bsome = ap (λ o. side_of o d) (asome r refl) ∙ ap (side_of (Some (r ++ more))) (bn refl)
side_same more (Some r) (Some q) c d an asome bn bsome = ap (λ o. side_of o d) (asome r refl) ∙ ap (side_of (Some (r ++ more))) (bsome q refl)

-- so a line stays in its side of an earlier split
side_kept : (more ls : List Line) → EndNone more → side (ls ++ more) ≡ side ls
side_kept more ls h =
    side_same more (after_trees 1 ls) (after_trees 2 ls) (after_trees 1 (ls ++ more)) (after_trees 2 (ls ++ more))
    (none_still more h 1 ls) (some_still more 1 ls) (none_still more h 2 ls) (some_still more 2 ls)

pub more_leave : (more ls : List Line) (q z : ℕ) → EndNone more → lines_leave (ls ++ more) q z ≡ (lines_leave ls q z && lines_leave more q z)
more_leave more [] q z h = refl
more_leave more (line ∷ ls) q z h =
    ap (λ s. line_leaves line s q z && lines_leave (ls ++ more) q z) (side_kept more ls h)
    ∙ ap (λ b. line_leaves line (side ls) q z && b) (more_leave more ls q z h)
    ∙ sym (and_assoc (line_leaves line (side ls) q z) (lines_leave ls q z) (lines_leave more q z))

-- the domains at a line rest on the lines before it alone
pub domains_before : (P : Instance) (start : Opening) (ls more : List Line) (k : ℕ) → k ≤ length ls → domains_at P start (ls ++ more) k ≡ domains_at P start ls k
domains_before P start ls more k le = ap (behind (opening P start)) (take-append-le k ls more le)

pub domains_end : (P : Instance) (start : Opening) (ls : List Line) (q z : ℕ) → domains_at P start ls (length ls) q z ≡ (opening P start q z && lines_leave ls q z)
domains_end P start ls q z = ap (λ (l : List Line). opening P start q z && lines_leave l q z) (take_all (length ls) ls (omega arith))

-- behind lines in which no open tree ends, the domains are what those leave of the domains before
pub domains_behind : (P : Instance) (start : Opening) (ls more : List Line) (q z : ℕ) → EndNone more → domains_at P start (ls ++ more) (length (ls ++ more)) q z ≡ (domains_at P start ls (length ls) q z && lines_leave more q z)
domains_behind P start ls more q z h =
    domains_end P start (ls ++ more) q z
    ∙ ap (λ b. opening P start q z && b) (more_leave more ls q z h)
    ∙ sym (and_assoc (opening P start q z) (lines_leave ls q z) (lines_leave more q z))
    ∙ ap (λ b. b && lines_leave more q z) (sym (domains_end P start ls q z))

pub split_ends_none : (p : ℕ) (x : Symbol) → EndNone (Split p x ∷ [])
split_ends_none p x n = refl

pub leaf_ends_one : (p : ℕ) (x : Symbol) (leaf : Line) → IsLeaf leaf → EndNone (Split p x ∷ leaf ∷ [])
leaf_ends_one p x leaf h n = tree_is_read (Leaf leaf h) (suc n) []

-- a leaf alone leaves all
pub leaf_leaves : (leaf : Line) (q z : ℕ) → IsLeaf leaf → lines_leave (leaf ∷ []) q z ≡ true
leaf_leaves leaf q z h = tree_leaves_all (Leaf leaf h) [] q z

-- an element of two lists in a row
pub got_in : {A : Type 0} (ls more : List A) (k : ℕ) (line : A) → slice_get (ls ++ more) k ≡ Some line → ((k < length ls) × (slice_get ls k ≡ Some line)) ⊎ ((m : ℕ) × (k ≡ length ls + m) × (slice_get more m ≡ Some line))
got_in [] more k line e = inr (k, omega arith, e)
got_in (l ∷ ls) more zero line e = inl (omega arith, e)
got_in {A} (l ∷ ls) more (suc k) line e = elim (got_in ls more k line e) as (λ (h : ((k < length ls) × (slice_get ls k ≡ Some line)) ⊎ ((m : ℕ) × (k ≡ length ls + m) × (slice_get more m ≡ Some line))). ((suc k < length (l ∷ ls)) × (slice_get (l ∷ ls) (suc k) ≡ Some line)) ⊎ ((m : ℕ) × (suc k ≡ length (l ∷ ls) + m) × (slice_get more m ≡ Some line))) [
  | inl h ↦ inl (omega (arith, h.0), h.1)
  | inr h ↦ inr (h.0, omega (arith, h.1), h.2)
]

pub got_one : {A : Type 0} (line other : A) (m : ℕ) → slice_get (line ∷ []) m ≡ Some other → (m ≡ 0) × (other ≡ line)
got_one line other zero e = (refl, cc)
got_one line other (suc m) e = absurd (cc)

-- a fact of each line, under the domains at it
abbrev pub EachAt : (ℕ → Domains → Line → Type 0) → Instance → Opening → List Line → Type 0
EachAt Q P start ls = (k : ℕ) (line : Line) → slice_get ls k ≡ Some line → Q k (domains_at P start ls k) line

pub one_more : (Q : ℕ → Domains → Line → Type 0) (P : Instance) (start : Opening) (ls : List Line) (line : Line) → EachAt Q P start ls → Q (length ls) (domains_at P start ls (length ls)) line → EachAt Q P start (ls ++ line ∷ [])
one_more Q P start ls line each here k other e = elim (got_in ls (line ∷ []) k other e) [
  | inl h ↦
      let le : k ≤ length ls = omega (arith, h.0) in
      subst (λ D. Q k D other) (sym (domains_before P start ls (line ∷ []) k le)) (each k other h.1)
  | inr h ↦
      let one = got_one line other h.0 h.2 in
      let at : length ls ≡ k = omega (arith, h.1, one.0) in
      subst (λ i. Q i (domains_at P start (ls ++ line ∷ []) i) other) at
      (subst (λ D. Q (length ls) D other) (sym (domains_before P start ls (line ∷ []) (length ls) (omega arith)))
      (subst (Q (length ls) (domains_at P start ls (length ls))) (sym one.1) here))
]

-- a fact of splits stays when a split is written, maybe with the leaf of its first side
pub split_more : (Q : ℕ → Domains → Line → Type 0) (P : Instance) (start : Opening) (ls added : List Line) (p : ℕ) (x : Symbol) → EachAt Q P start ls → Q (length ls) (domains_at P start ls (length ls)) (Split p x) → ((k : ℕ) (D : Domains) (leaf : Line) → IsLeaf leaf → Q k D leaf) → IsSplitWithLeaf p x added → EachAt Q P start (ls ++ added)
split_more Q P start ls added p x each here leaves (inl e) = subst (λ l. EachAt Q P start (ls ++ l)) (sym e) (one_more Q P start ls (Split p x) each here)
split_more Q P start ls added p x each here leaves (inr h) =
    let leaf : Line = h.0 in
    let both : EachAt Q P start ((ls ++ Split p x ∷ []) ++ leaf ∷ []) =
    one_more Q P start (ls ++ Split p x ∷ []) leaf (one_more Q P start ls (Split p x) each here)
    (leaves (length (ls ++ Split p x ∷ [])) (domains_at P start (ls ++ Split p x ∷ []) (length (ls ++ Split p x ∷ []))) leaf h.1) in
    subst (EachAt Q P start) (append_assoc ls (Split p x ∷ []) (leaf ∷ []) ∙ ap (λ l. ls ++ l) (sym h.2)) both

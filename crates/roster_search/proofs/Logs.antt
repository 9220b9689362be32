-- The logs that a search ends with.
use Rattle.std.proofs.Common.{◌≡◌, ℕ, zero, suc, ◌+◌, ◌<◌, ◌≤◌, List, [], ◌++◌, length, get_or, Bool, Option, Some, refl, ap, sym, ◌∙◌, subst, append-nil, arith, length-append, inl, inr, cond, true, false}
use Rattle.std.specs.Prelude.{slice_get, Contains, replicate}
use Rattle.std.specs.List.Sorted.{IsStrictlyIncreasing}
use Rattle.std.proofs.lemmas.List.{get_or_default, length-replicate}
use Rattle.std.proofs.lemmas.List.Sums.{count_by-le-length}
use Rattle.std.proofs.lemmas.Option.{slice_get_within}
use Rattle.rwsp_terms.specs.declared.data.Rule.{Rule}
use Rattle.rwsp_terms.specs.Instance.{Instance}
use Rattle.rwsp_terms.specs.Rules.{rule_of, Names}
use Rattle.refutation_terms.specs.declared.lines.Line.{Line}
use Rattle.refutation_terms.specs.declared.lines.Line.TheVariants.{Closing, Unfinished}
use Rattle.refutation_terms.specs.declared.lines.Leaf.TheVariants.{Blocks}
use Rattle.refutation_terms.specs.declared.lines.Opening.{Opening}
use Rattle.refutation_terms.specs.declared.lines.Opening.TheVariants.{Given}
use Rattle.refutation_terms.specs.Tree.{IsTree, after_trees}
use Rattle.refutation_terms.specs.Log.{Log, CountsFit, LineFits, Holds, HoldsAt, Cites, ListsShortOnly, IsAllowed, IsGrounded, Passes, IsSpent, size, is_worked}
use Rattle.refutation_terms.specs.Ranges.{AreRules}
use Rattle.refutation_terms.proofs.Trees.{whole_is_tree}
use Rattle.refutation_terms.proofs.TreeDomains.{got_left}
use Rattle.domain_store.specs.Splits.{second_sides_to_come}
use Rattle.domain_store.specs.States.{State, open_trees}
use Rattle.roster_search.specs.declared.progress.Progress.{Progress}
use Rattle.refutation_log.specs.declared.found.Found.TheVariants.{NoRoster, Undecided}
use Rattle.roster_search.specs.Founds.{IsLogOf, gives_cells}
use Rattle.roster_search.specs.Written.{IsProgress, IsEnded}
use Rattle.roster_search.proofs.Growing.{got_in, domains_before}
use Rattle.rwsp_model.proofs.Numbering.{rule_in_range}

pub are_rules : (P : Instance) (R : List ℕ) → IsStrictlyIncreasing R → ((k : ℕ) → Contains R k → (r : Rule) × (rule_of P k ≡ Some r)) → AreRules P R
are_rules P R up h = (
  up,
  λ i d lt. (
      let k : ℕ = get_or R i d in
      let rule = h k (i, lt, get_or_default R i k d lt) in
      rule_in_range P k rule.0 rule.1
      ),
)

-- lines that are open
abbrev pub AreOpen : List Line → Type 0
AreOpen rest = (m : ℕ) (line : Line) → slice_get rest m ≡ Some line → line ≡ Unfinished

abbrev pub log_of : Progress → List Line → Log
log_of s rest = record { named = s.named; opening = s.aim.opening; goal = s.aim.goal; counts = gives_cells s.aim.opening; lines = s.lines.items ++ rest }

-- what fits a log that may not count fits each log
pub fits_either : (P : Instance) (goal : Option ℕ) (counts : Bool) (line : Line) → LineFits P goal false line → LineFits P goal counts line
fits_either P goal true (Closing (Blocks x)) h = (refl, h.1)
fits_either P goal true line h = h
fits_either P goal false line h = h

pub counts_fit : (start : Opening) → CountsFit start (gives_cells start)
counts_fit (Given given) = refl
counts_fit start = tt

pub each_in : (Q : Line → Type 0) (ls rest : List Line) → ((k : ℕ) (line : Line) → slice_get ls k ≡ Some line → Q line) → Q Unfinished → AreOpen rest → (k : ℕ) (line : Line) → slice_get (ls ++ rest) k ≡ Some line → Q line
each_in Q ls rest each here opened k line e = elim (got_in ls rest k line e) [
  | inl at ↦ each k line at.1
  | inr at ↦ subst Q (sym (opened at.0 line at.2)) here
]

grounded : (P : Instance) (s : Progress) (rest : List Line) → IsProgress P s → IsAllowed P s.aim.opening → IsStrictlyIncreasing s.named → AreOpen rest → IsGrounded P (log_of s rest)
grounded P s rest w allowed up opened = record {
  fits = record {
    named = are_rules P s.named up w.numbers;
    opening = w.opening_fits;
    goal = w.goal_fits;
    counts = counts_fit s.aim.opening;
    lines = each_in (LineFits P s.aim.goal (gives_cells s.aim.opening)) s.lines.items rest (λ k line e. fits_either P s.aim.goal (gives_cells s.aim.opening) line (w.stand k line e).fits) tt opened;
  };
  allowed = allowed;
  turn_named = λ r h. (w.cited r).1 (inl h);
  named = λ k line r e cites. (each_in (λ l. Cites P l r → Names P s.named r) s.lines.items rest (λ i l got c. (w.cited r).1 (inr (i, l, got, c))) (λ none. absurd none) opened k line e) cites;
  short = each_in (ListsShortOnly P) s.lines.items rest (λ k line e. (w.stand k line e).short) tt opened;
}

holds_before : (P : Instance) (s : Progress) (rest : List Line) → IsProgress P s → (k : ℕ) (line : Line) → k < length s.lines.items → slice_get (s.lines.items ++ rest) k ≡ Some line → HoldsAt P (log_of s rest) k line
holds_before P s rest w k line lt e = elim (got_in s.lines.items rest k line e) [
  | inl at ↦ subst (λ D. Holds P s.aim.goal D line) (sym (domains_before P s.aim.opening s.lines.items rest k (omega (arith, lt)))) (w.stand k line at.1).holds
  | inr at ↦ absurd (omega (arith, lt, at.1))
]

is_log_of : (P : Instance) (s : Progress) (rest : List Line) → IsProgress P s → IsLogOf P s.aim.opening s.aim.goal (log_of s rest)
is_log_of P s rest w = record {
  same_opening = refl;
  same_goal = refl;
  may_count = refl;
  cited = λ r n. elim ((w.cited r).0 n) [
    | inl start ↦ inl start
    | inr at ↦ inr (at.0, at.1, got_left s.lines.items rest at.0 at.1 at.2, at.3)
  ];
}

same_log : (g h : Log) → g.named ≡ h.named → g.opening ≡ h.opening → g.goal ≡ h.goal → g.counts ≡ h.counts → g.lines ≡ h.lines → g ≡ h
same_log g h a b d n c =
    ap (λ (R : List ℕ). record { named = R; opening = g.opening; goal = g.goal; counts = g.counts; lines = g.lines }) a
    ∙ ap (λ (t : Opening). record { named = h.named; opening = t; goal = g.goal; counts = g.counts; lines = g.lines }) b
    ∙ ap (λ (o : Option ℕ). record { named = h.named; opening = h.opening; goal = o; counts = g.counts; lines = g.lines }) d
    ∙ ap (λ (m : Bool). record { named = h.named; opening = h.opening; goal = h.goal; counts = m; lines = g.lines }) n
    ∙ ap (λ (ls : List Line). record { named = h.named; opening = h.opening; goal = h.goal; counts = h.counts; lines = ls }) c

abbrev none : List Line
none = []

none_open : AreOpen none
none_open m line e = absurd (cc)

-- a whole tree passes
pub passing_end : (P : Instance) (s : Progress) (g : Log) → IsProgress P s → IsAllowed P s.aim.opening → IsStrictlyIncreasing s.named → IsTree s.lines.items → length s.lines.items ≤ s.aim.budget → g.named ≡ s.named → g.opening ≡ s.aim.opening → g.goal ≡ s.aim.goal → g.counts ≡ gives_cells s.aim.opening → g.lines ≡ s.lines.items → IsEnded P s.aim s.lines.items (NoRoster g)
passing_end P s g w allowed up tree few a b d n c =
    let whole : s.lines.items ++ none ≡ s.lines.items = append-nil s.lines.items in
    let is : log_of s none ≡ g = sym (same_log g (log_of s none) a b d n (c ∙ sym whole)) in
    let worked : size g ≤ length g.lines = count_by-le-length is_worked g.lines in
    let long : length g.lines ≡ length s.lines.items = ap length c in
    let passes : Passes P (log_of s none) = record {
      grounded = grounded P s none w allowed up none_open;
      tree = subst IsTree (sym whole) tree;
      holds = λ k line e. holds_before P s none w k line (omega (arith, slice_get_within (s.lines.items ++ none) k line e, ap length whole)) e;
    } in (
      subst (Passes P) is passes,
      omega (arith, worked, long, few),
      subst (IsLogOf P s.aim.opening s.aim.goal) is (is_log_of P s none w),
      c,
    )

pub open_rest : (n : ℕ) → AreOpen (replicate n Unfinished)
open_rest zero m line e = absurd (cc)
open_rest (suc n) zero line e = cc
open_rest (suc n) (suc m) line e = open_rest n m line e

rest_is_read : (n : ℕ) → after_trees n (replicate n Unfinished) ≡ Some []
rest_is_read zero = refl
rest_is_read (suc n) = rest_is_read n

pub rest_ends : (ls : List Line) (n : ℕ) → after_trees 1 (ls ++ replicate n Unfinished) ≡ after_trees n (replicate n Unfinished) → IsTree (ls ++ replicate n Unfinished)
rest_ends ls n e = whole_is_tree (ls ++ replicate n Unfinished) (e ∙ rest_is_read n)

pub some_open : (w : State) → w.whole ≡ false → 1 ≤ open_trees w
some_open w part = let e : open_trees w ≡ second_sides_to_come w.splits + 1 = ap (λ b. cond b 0 (second_sides_to_come w.splits + 1)) part in omega arith

-- lines that have used up the budget, with the rest left open
pub spent_end : (P : Instance) (s : Progress) (n : ℕ) (g : Log) → IsProgress P s → IsAllowed P s.aim.opening → IsStrictlyIncreasing s.named → IsTree (s.lines.items ++ replicate n Unfinished) → length s.lines.items ≤ s.aim.budget → s.aim.budget ≤ length s.lines.items → 1 ≤ n → g.named ≡ s.named → g.opening ≡ s.aim.opening → g.goal ≡ s.aim.goal → g.counts ≡ gives_cells s.aim.opening → g.lines ≡ s.lines.items ++ replicate n Unfinished → IsEnded P s.aim s.lines.items (Undecided g)
spent_end P s n g w allowed up tree few all some a b d m c =
    let rest : List Line = replicate n Unfinished in
    let is : log_of s rest ≡ g = sym (same_log g (log_of s rest) a b d m c) in
    let long : length (s.lines.items ++ rest) ≡ length s.lines.items + length rest = length-append s.lines.items rest in
    let many : length rest ≡ n = length-replicate n Unfinished in
    let spent : IsSpent P (log_of s rest) s.aim.budget = record {
      grounded = grounded P s rest w allowed up (open_rest n);
      tree = tree;
      holds = λ k line lt e. holds_before P s rest w k line (omega (arith, lt, all)) e;
      rest = λ k line le e. elim (got_in s.lines.items rest k line e) [ inl at ↦ absurd (omega (arith, at.0, le, few)) | inr at ↦ open_rest n at.0 line at.2 ];
      unfinished = omega (arith, long, many, few, some);
    } in (
      subst (λ l. IsSpent P l s.aim.budget) is spent,
      subst (IsLogOf P s.aim.opening s.aim.goal) is (is_log_of P s rest w),
      (n, c),
    )

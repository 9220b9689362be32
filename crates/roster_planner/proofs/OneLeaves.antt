-- A log whose tree is one leaf is sharp: it splits nowhere, and its first line is closed.
use Rattle.std.proofs.Common.{◌≡◌, ℕ, zero, suc, ◌≤◌, List, [], ◌∷◌, sym, subst, arith, Some, None}
use Rattle.std.specs.Prelude.{slice_get, count_by, Result, Ok, Err, IfOk}
use Rattle.std.specs.declared.alloc.AllocError.{AllocError}
use Rattle.rwsp_terms.specs.declared.data.Symbol.{Symbol}
use Rattle.rwsp_terms.specs.Instance.{Instance}
use Rattle.refutation_terms.specs.declared.lines.Line.{Line}
use Rattle.refutation_terms.specs.declared.lines.Line.TheVariants.{Split, Closing}
use Rattle.refutation_terms.specs.declared.lines.Leaf.{Leaf}
use Rattle.refutation_terms.specs.declared.lines.Opening.{Opening}
use Rattle.refutation_terms.specs.Log.{Log, Passes, NamesOnlyCited, is_worked, size}
use Rattle.refutation_terms.specs.declared.lines.LogKind.TheVariants.{WithoutGoal}
use Rattle.refutation_terms.specs.Sharp.{IsScarcestTurn, IsSharp, IsUnclosed}
use Rattle.refutation_terms.specs.Verdict.{kind_by}
use Rattle.refutation_log.specs.declared.found.Found.TheVariants.{NoRoster}
use Rattle.refutation_log.specs.Planned.{IsPlanned}
use Rattle.refutation_log.specs.FreeSharp.{IsFreeSharp}
use Rattle.refutation_log.specs.Bests.{IsFreeProof}
use Rattle.roster_planner.specs.Counted.{IsOneLeaf, IsCountedProof, IsPlainProof}
use Rattle.roster_planner.specs.FoundFrom.{IsFoundFrom}
use Rattle.roster_planner.proofs.Plans.{kind_of_plan}
use Rattle.roster_planner.proofs.ShortLists.{some_short_rules}

only_line : (leaf : Leaf) (k : ℕ) (line : Line) → slice_get (Closing leaf ∷ []) k ≡ Some line → Closing leaf ≡ line
only_line leaf zero line at = cc at
only_line leaf (suc k) line at = absurd (cc at)

is_the_leaf : (g : Log) (one : IsOneLeaf g) (k : ℕ) (line : Line) → slice_get g.lines k ≡ Some line → Closing one.0 ≡ line
is_the_leaf g one k line at = only_line one.0 k line (subst (λ (lines : List Line). slice_get lines k ≡ Some line) one.1 at)

closed_at_top : (g : Log) (line : Line) → IsOneLeaf g → slice_get g.lines 0 ≡ Some line → IsUnclosed line → ⊥
closed_at_top g line one at unclosed = subst IsUnclosed (sym (is_the_leaf g one 0 line at)) unclosed

no_split : (g : Log) → IsOneLeaf g → (k p : ℕ) (x : Symbol) → slice_get g.lines k ≡ Some (Split p x) → ⊥
no_split g one k p x at = let same = is_the_leaf g one k (Split p x) at in absurd (cc same)

one_line : (g : Log) → IsOneLeaf g → size g ≤ 1
one_line g one = subst (λ (lines : List Line). count_by is_worked lines ≤ 1) (sym one.1) (omega arith)

pub one_is_sharp : (P : Instance) (g : Log) → IsOneLeaf g → IsScarcestTurn P g.opening → IsSharp P g
one_is_sharp P g one first =
    let short = some_short_rules P in
    record {
      short = short.0;
      all_short = short.1;
      splits = λ k p x at. absurd (no_split g one k p x at);
      top = λ line at undecided. absurd (closed_at_top g line one at undecided);
      turn = first;
    }

pub one_is_free_sharp : (P : Instance) (goal : ℕ) (g : Log) → IsOneLeaf g → NamesOnlyCited P g → IsFreeSharp P goal g
one_is_free_sharp P goal g one cited =
    let short = some_short_rules P in
    record {
      cited = cited;
      short = short.0;
      all_short = short.1;
      splits = λ k p x at. absurd (no_split g one k p x at);
      top = λ line at undecided. absurd (closed_at_top g line one at undecided);
    }

-- a log of one leaf that passes with this goal is a proof within every budget
pub one_proof : (P : Instance) (budget goal : ℕ) (g : Log) → 1 ≤ budget → IsOneLeaf g → Passes P g → g.goal ≡ Some goal → NamesOnlyCited P g → IsFreeProof P budget goal g
one_proof P budget goal g some one passes same cited =
    let few = one_line g one in
    (passes, same, omega (arith, few, some), one_is_free_sharp P goal g one cited)

-- the same of a log that was made of the leaf
pub if_one_proof : (P : Instance) (budget goal : ℕ) (leaf : Leaf) (r : Result Log AllocError) → 1 ≤ budget → IfOk r (λ g. g.lines ≡ Closing leaf ∷ []) → IfOk r (Passes P) → IfOk r (λ g. g.goal ≡ Some goal) → IfOk r (NamesOnlyCited P) → IfOk r (IsFreeProof P budget goal)
if_one_proof P budget goal leaf (Ok g) some lines passes same cited = one_proof P budget goal g some (leaf, lines) passes same cited
if_one_proof P budget goal leaf (Err e) some lines passes same cited = tt

-- one of a search is what a plan finds from its opening
pub found_at_once : (P : Instance) (start : Opening) (budget : ℕ) (g : Log) → 1 ≤ budget → IsScarcestTurn P start → IsPlainProof P start None g → IsFoundFrom P start budget (NoRoster g)
found_at_once P start budget g some first h =
    let few = one_line g (h.leaf, h.lines) in
    (h.passes, omega (arith, few, some), h.is_log, one_is_sharp P g (h.leaf, h.lines) (subst (IsScarcestTurn P) (sym h.is_log.same_opening) first))

-- and one with the first turn is a plan
pub one_plan : (P : Instance) (budget : ℕ) (o : Opening) (g : Log) → 1 ≤ budget → IsScarcestTurn P o → kind_by o None ≡ WithoutGoal → IsCountedProof P o None g → IsPlanned P budget (NoRoster g)
one_plan P budget o g some first plain h =
    let few = one_line g h.one_leaf in (
      h.passes,
      omega (arith, few, some),
      record {
        of_kind = kind_of_plan o g plain h.same_opening h.same_goal;
        cited = h.cited;
        sharp = one_is_sharp P g h.one_leaf (subst (IsScarcestTurn P) (sym h.same_opening) first);
      },
    )

-- A log whose splits are as the reasons of a plan say is sharp.
use Rattle.std.proofs.Common.{◌≡◌, ℕ, ◌+◌, ◌*◌, ◌^◌, ◌<◌, ◌≤◌, List, refl, sym, ◌∙◌, subst, arith, inl, inr, Some, None, Bool, true, false, ◌&&◌}
use Rattle.std.specs.Prelude.{slice_get, Result, Ok, Err, IfOk}
use Rattle.std.specs.declared.alloc.AllocError.{AllocError}
use Rattle.rwsp_terms.specs.declared.data.Symbol.{Symbol}
use Rattle.rwsp_terms.specs.declared.data.Weight.{Weight}
use Rattle.rwsp_terms.specs.Instance.{Instance, cells, shift_count}
use Rattle.rwsp_model.specs.Validity.{KeepsLimits}
use Rattle.rwsp_model.proofs.Limits.{some_cells}
use Rattle.refutation_terms.specs.declared.lines.Line.{Line}
use Rattle.refutation_terms.specs.declared.lines.Line.TheVariants.{Split, Unfinished, Closing}
use Rattle.refutation_terms.specs.declared.lines.Leaf.TheVariants.{Words}
use Rattle.refutation_terms.specs.declared.lines.WordClaim.TheVariants.{Light}
use Rattle.refutation_terms.specs.declared.lines.Opening.{Opening}
use Rattle.refutation_terms.specs.Word.{Domains, AreSame}
use Rattle.refutation_terms.specs.Tree.{opening, domains_at}
use Rattle.refutation_terms.specs.Log.{Log}
use Rattle.refutation_terms.specs.Sharp.{IsScarcestTurn, IsSharp, NoBoundHolds, IsUnclosed, HoldsAtTop}
use Rattle.refutation_terms.proofs.SameDomains.{turned_round}
use Rattle.domain_store.specs.Store.{Store, has_domain}
use Rattle.domain_store.specs.Looks.{Closes}
use Rattle.domain_store.specs.Cycles.{AreShortRules}
use Rattle.propagators.specs.TopBounds.{AreTopWeights}
use Rattle.propagators.proofs.SameWords.{same_at_top}
use Rattle.roster_search.specs.Founds.{IsForced, IsSearchLog, IsFound, HasSpentBudget}
use Rattle.refutation_log.specs.declared.found.Found.{Found}
use Rattle.refutation_log.specs.declared.found.Found.TheVariants.{Roster, NoRoster, Undecided}
use Rattle.roster_planner.specs.Reasons.{AreReasons}
use Rattle.roster_planner.specs.FoundFrom.{IsFoundFrom}
use Rattle.roster_planner.proofs.SharpSplits.{sharp_split}

abbrev Leaves : Type 1
Leaves = Store → Line → Type 0

abbrev Spent : Type 1
Spent = Store → ℕ → Symbol → Type 0

-- at the top

at_top : (P : Instance) (start : Opening) (leaves : Leaves) (spent : Spent) (S : Store) (R : List ℕ) (y : List Weight) → 0 < cells P → AreShortRules P R → AreReasons P start leaves spent → AreSame P (has_domain S) (opening P start) → (Closes P (leaves S) S → ⊥) → AreTopWeights P (opening P start) R y → HoldsAtTop P (opening P start) R y → ⊥
at_top P start leaves spent S R y some short reasons same undecided weights holds =
    let line = Closing (Words 0 R (Light 1 0 y)) in
    undecided (line, reasons.top S line same (refl, refl, short, weights), same_at_top P (opening P start) (has_domain S) R y some (turned_round P (has_domain S) (opening P start) same) holds)

no_bound : (P : Instance) (start : Opening) (leaves : Leaves) (spent : Spent) (S : Store) (R : List ℕ) → 0 < cells P → AreShortRules P R → AreReasons P start leaves spent → AreSame P (has_domain S) (opening P start) → (Closes P (leaves S) S → ⊥) → NoBoundHolds P (opening P start) R
no_bound P start leaves spent S R some short reasons same undecided = record {
  plain = λ k y is. at_top P start leaves spent S R y some short reasons same undecided (inl (k, is));
  searched = λ k y less found. at_top P start leaves spent S R y some short reasons same undecided (inr (k, less, found));
}

and_true : (b : Bool) → (b && true) ≡ b
and_true true = refl
and_true false = refl

-- the domains at the first line
pub at_first : (P : Instance) (start : Opening) (lines : List Line) (D : Domains) → AreSame P D (domains_at P start lines 0) → AreSame P D (opening P start)
at_first P start lines D same = λ p x inside. same p x inside ∙ and_true (opening P start p x)

-- the first line may be undecided only where no bound holds
top_line : (P : Instance) (start : Opening) (leaves : Leaves) (spent : Spent) (R : List ℕ) (lines : List Line) (line : Line) → KeepsLimits P → AreShortRules P R → AreReasons P start leaves spent → ((p : ℕ) (x : Symbol) → slice_get lines 0 ≡ Some (Split p x) → IsForced P leaves spent (domains_at P start lines 0) p x) → (slice_get lines 0 ≡ Some Unfinished → ⊥) → slice_get lines 0 ≡ Some line → IsUnclosed line → NoBoundHolds P (opening P start) R
top_line P start leaves spent R lines (Split p x) limits short reasons forced never at undecided =
    let h = forced p x at in
    no_bound P start leaves spent h.store R (some_cells P limits) short reasons (at_first P start lines (has_domain h.store) h.agrees) h.not_closed
top_line P start leaves spent R lines Unfinished limits short reasons forced never at undecided = absurd (never at)
top_line P start leaves spent R lines line limits short reasons forced never at undecided = absurd undecided

search_log : (P : Instance) (start : Opening) (leaves : Leaves) (spent : Spent) (R : List ℕ) (g : Log) → KeepsLimits P → IsScarcestTurn P start → AreShortRules P R → AreReasons P start leaves spent → (slice_get g.lines 0 ≡ Some Unfinished → ⊥) → IsSearchLog P start None leaves spent g → IsSharp P g
search_log P start leaves spent R g limits first short reasons never h =
    let same = h.is_log.same_opening in
    record {
      short = R;
      all_short = short.all_short;
      splits = λ k p x at. sharp_split P leaves spent (domains_at P g.opening g.lines k) R p x limits short reasons.cases
          (subst (λ (t : Opening). IsForced P leaves spent (domains_at P t g.lines k) p x) (sym same) (h.splits k p x at));
      top = λ line at undecided. subst (λ (t : Opening). NoBoundHolds P (opening P t) R) (sym same)
          (top_line P start leaves spent R g.lines line limits short reasons (λ p x. h.splits 0 p x) never at undecided);
      turn = subst (IsScarcestTurn P) (sym same) first;
    }

found_from : (P : Instance) (start : Opening) (budget : ℕ) (leaves : Leaves) (spent : Spent) (R : List ℕ) (found : Found) → KeepsLimits P → 1 ≤ budget → IsScarcestTurn P start → AreShortRules P R → AreReasons P start leaves spent → IsFound P start None budget leaves spent found → (HasSpentBudget found → budget + 1 < 2 * (shift_count P + 1) ^ cells P) → IsFoundFrom P start budget found
found_from P start budget leaves spent R (Roster s) limits some first short reasons h few = h
found_from P start budget leaves spent R (NoRoster g) limits some first short reasons h few =
    (h.0, h.1, h.2.is_log, search_log P start leaves spent R g limits first short reasons (λ at. h.0.holds 0 Unfinished at) h.2)
found_from P start budget leaves spent R (Undecided g) limits some first short reasons h few =
    (h.0, h.1.is_log, search_log P start leaves spent R g limits first short reasons (λ at. h.0.holds 0 Unfinished (omega (arith, some)) at) h.1, few tt)

-- the same of what a search gives
pub if_found_from : (P : Instance) (start copied : Opening) (budget : ℕ) (leaves : Leaves) (spent : Spent) (R : List ℕ) (r : Result Found AllocError) → KeepsLimits P → 1 ≤ budget → IsScarcestTurn P start → AreShortRules P R → AreReasons P start leaves spent → copied ≡ start → IfOk r (IsFound P copied None budget leaves spent) → IfOk r (λ found. HasSpentBudget found → budget + 1 < 2 * (shift_count P + 1) ^ cells P) → IfOk r (IsFoundFrom P start budget)
if_found_from P start copied budget leaves spent R (Ok found) limits some first short reasons same h few = found_from P start budget leaves spent R found limits some first short reasons (subst (λ (o : Opening). IsFound P o None budget leaves spent found) same h) few
if_found_from P start copied budget leaves spent R (Err e) limits some first short reasons same h few = tt

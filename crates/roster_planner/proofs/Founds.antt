-- What a search with a goal finds, by the reasons of cases.
use Rattle.std.proofs.Common.{ℕ, List, sym, subst, Some}
use Rattle.std.specs.Prelude.{Result, Ok, Err, IfOk}
use Rattle.std.specs.declared.alloc.AllocError.{AllocError}
use Rattle.rwsp_terms.specs.declared.data.Symbol.{Symbol}
use Rattle.rwsp_terms.specs.Instance.{Instance}
use Rattle.rwsp_terms.specs.Rules.{NamesShortRules}
use Rattle.rwsp_model.specs.Validity.{KeepsLimits}
use Rattle.refutation_terms.specs.declared.lines.Line.{Line}
use Rattle.refutation_terms.specs.declared.lines.Opening.{Opening}
use Rattle.refutation_terms.specs.declared.lines.Opening.TheVariants.{Full}
use Rattle.refutation_terms.specs.Tree.{domains_at}
use Rattle.refutation_terms.specs.FewLeaf.{FewHolds}
use Rattle.refutation_terms.specs.Log.{Log}
use Rattle.domain_store.specs.Store.{Store}
use Rattle.roster_search.specs.Founds.{IsForced, IsSearchLog, IsFound}
use Rattle.refutation_log.specs.declared.found.Found.{Found}
use Rattle.refutation_log.specs.declared.found.Found.TheVariants.{Roster, NoRoster, Undecided}
use Rattle.roster_planner.specs.CaseReasons.{AreCaseReasons}
use Rattle.roster_planner.proofs.SharpSplits.{clean_by_other_list, sharp_split}
use Rattle.refutation_log.specs.Bests.{IsFoundWith}
use Rattle.refutation_log.specs.FreeSharp.{HoldsFreeAtTop, FailsFreeAtTop, IsFreeSharp}

abbrev Leaves : Type 1
Leaves = Store → Line → Type 0

abbrev Spent : Type 1
Spent = Store → ℕ → Symbol → Type 0

other_list : (P : Instance) (goal : ℕ) (R S : List ℕ) → NamesShortRules P R → NamesShortRules P S → HoldsFreeAtTop P goal R → HoldsFreeAtTop P goal S
other_list P goal R S r s h = λ u long over clean. h u long over (clean_by_other_list P R S 0 u r s clean)

free_sharp : (P : Instance) (goal : ℕ) (leaves : Leaves) (spent : Spent) (g : Log) → KeepsLimits P → FailsFreeAtTop P goal → AreCaseReasons P leaves spent → IsSearchLog P Full (Some goal) leaves spent g → IsFreeSharp P goal g
free_sharp P goal leaves spent g limits fails reasons h =
    let same = h.is_log.same_opening in
    let R = reasons.rules in
    record {
      cited = h.is_log.cited;
      short = R;
      all_short = reasons.short.all_short;
      splits = λ k p x at. record {
        sharp = sharp_split P leaves spent (domains_at P g.opening g.lines k) R p x limits reasons.short reasons
            (subst (λ (t : Opening). IsForced P leaves spent (domains_at P t g.lines k) p x) (sym same) (h.splits k p x at));
        not_few = subst (λ (t : Opening). FewHolds P (Some goal) (domains_at P t g.lines k) → ⊥) (sym same) (h.no_few k p x at);
      };
      top = λ line at undecided holds. fails.fails (other_list P goal R fails.short reasons.short.all_short fails.all_short holds);
    }

pub found_with : (P : Instance) (goal budget : ℕ) (leaves : Leaves) (spent : Spent) (found : Found) → KeepsLimits P → FailsFreeAtTop P goal → AreCaseReasons P leaves spent → IsFound P Full (Some goal) budget leaves spent found → IsFoundWith P budget goal found
found_with P goal budget leaves spent (Roster s) limits fails reasons h = ((h.0.0, h.0.1), h.0.2)
found_with P goal budget leaves spent (NoRoster g) limits fails reasons h = (h.0, h.2.is_log.same_goal, h.1, free_sharp P goal leaves spent g limits fails reasons h.2)
found_with P goal budget leaves spent (Undecided g) limits fails reasons h = (h.0, h.1.is_log.same_goal, free_sharp P goal leaves spent g limits fails reasons h.1)

-- the same of what a search gives
pub if_found_with : (P : Instance) (goal budget : ℕ) (leaves : Leaves) (spent : Spent) (r : Result Found AllocError) → KeepsLimits P → FailsFreeAtTop P goal → AreCaseReasons P leaves spent → IfOk r (IsFound P Full (Some goal) budget leaves spent) → IfOk r (IsFoundWith P budget goal)
if_found_with P goal budget leaves spent (Ok found) limits fails reasons h = found_with P goal budget leaves spent found limits fails reasons h
if_found_with P goal budget leaves spent (Err e) limits fails reasons h = tt

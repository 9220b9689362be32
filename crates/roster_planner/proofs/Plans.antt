-- What is found from an opening, as a plan and as what fills in cells.
use Rattle.std.proofs.Common.{◌≡◌, ℕ, false, None, sym, ◌∙◌, subst}
use Rattle.std.specs.Prelude.{Bool, Option, Result, Ok, Err, IfOk}
use Rattle.std.specs.declared.alloc.AllocError.{AllocError}
use Rattle.rwsp_terms.specs.Instance.{Instance}
use Rattle.refutation_terms.specs.declared.lines.LogKind.TheVariants.{WithoutGoal}
use Rattle.refutation_terms.specs.declared.lines.Opening.{Opening}
use Rattle.refutation_terms.specs.declared.lines.Opening.TheVariants.{Full, Turned, Given}
use Rattle.refutation_terms.specs.Log.{Log, CountsFit, OpeningFits, IsAllowed}
use Rattle.refutation_terms.specs.Sharp.{IsScarcestTurn, IsSharp}
use Rattle.refutation_terms.specs.Verdict.{kind_by, kind_of_log}
use Rattle.refutation_log.specs.declared.found.Found.{Found}
use Rattle.refutation_log.specs.declared.found.Found.TheVariants.{Roster, NoRoster, Undecided}
use Rattle.refutation_log.specs.Planned.{IsPlannedLog, IsPlanned, IsCounted}
use Rattle.roster_search.specs.Founds.{IsLogOf}
use Rattle.roster_planner.specs.FoundFrom.{IsFoundFrom}
use Rattle.roster_planner.proofs.Counting.{gives_none}

-- a plan's opening gives no cells, so its log may count or not, and that of a search may not
pub counts_either : (start : Opening) → kind_by start None ≡ WithoutGoal → (counts : Bool) → CountsFit start counts
counts_either (Given given) e counts = absurd (cc e)
counts_either start e counts = tt

pub plan_fits : (P : Instance) (start : Opening) → IsScarcestTurn P start → kind_by start None ≡ WithoutGoal → OpeningFits P start × IsAllowed P start
plan_fits P Full first e = (tt, tt)
plan_fits P (Turned t) first e = ((first.0.0, first.0.1.1), first.0.2)
plan_fits P (Given given) first e = absurd (cc e)

pub kind_of_plan : (start : Opening) (g : Log) → kind_by start None ≡ WithoutGoal → g.opening ≡ start → g.goal ≡ None → kind_of_log g ≡ WithoutGoal
kind_of_plan start g e opened goal = subst (λ (o : Option ℕ). kind_by g.opening o ≡ WithoutGoal) (sym goal) (subst (λ (t : Opening). kind_by t None ≡ WithoutGoal) (sym opened) e)

planned_log : (P : Instance) (start : Opening) (g : Log) → kind_by start None ≡ WithoutGoal → IsLogOf P start None g → IsSharp P g → IsPlannedLog P g
planned_log P start g e h sharp = record { of_kind = kind_of_plan start g e h.same_opening h.same_goal; cited = h.cited; sharp = sharp }

pub if_planned : (P : Instance) (start : Opening) (budget : ℕ) (r : Result Found AllocError) → kind_by start None ≡ WithoutGoal → IfOk r (IsFoundFrom P start budget) → IfOk r (IsPlanned P budget)
if_planned P start budget (Ok (Roster s)) e h = (h.0.0, h.0.1)
if_planned P start budget (Ok (NoRoster g)) e h = (h.0, h.1, planned_log P start g e h.2 h.3)
if_planned P start budget (Ok (Undecided g)) e h = (h.0, planned_log P start g e h.1 h.2, h.3)
if_planned P start budget (Err x) e h = tt

pub if_plan_uncounted : (P : Instance) (start : Opening) (budget : ℕ) (r : Result Found AllocError) → kind_by start None ≡ WithoutGoal → IfOk r (IsFoundFrom P start budget) → IfOk r (IsCounted P false)
if_plan_uncounted P start budget (Ok (Roster s)) e h = tt
if_plan_uncounted P start budget (Ok (NoRoster g)) e h = h.2.may_count ∙ gives_none start (counts_either start e)
if_plan_uncounted P start budget (Ok (Undecided g)) e h = h.1.may_count ∙ gives_none start (counts_either start e)
if_plan_uncounted P start budget (Err x) e h = tt

-- What the kind of a log tells of its goal and its opening.
use Rattle.std.proofs.Common.{◌≡◌, ℕ, ◌≤◌, List, refl, sym, subst, Option, Some, None}
use Rattle.rwsp_terms.specs.declared.data.Symbol.{Symbol}
use Rattle.rwsp_terms.specs.Instance.{Instance}
use Rattle.rwsp_terms.specs.Rules.{Meets}
use Rattle.refutation_terms.specs.declared.lines.LogKind.TheVariants.{WithoutGoal}
use Rattle.refutation_terms.specs.declared.lines.Opening.{Opening}
use Rattle.refutation_terms.specs.declared.lines.Opening.TheVariants.{Full, Turned, Given}
use Rattle.refutation_terms.specs.FreeWeekends.{free_weekends}
use Rattle.refutation_terms.specs.Log.{Log, GoalFits, HoldsOpening, Passes}
use Rattle.refutation_terms.specs.Laws.{HasGoal}
use Rattle.refutation_terms.specs.Verdict.{kind_by, kind_of_log}
use Rattle.refutation_terms.proofs.Sound.{passing_leaves_none}

pub no_goal : (o : Opening) (goal : Option ℕ) → kind_by o goal ≡ WithoutGoal → goal ≡ None
no_goal o None e = refl
no_goal Full (Some goal) e = absurd (cc)
no_goal (Turned t) (Some goal) e = absurd (cc)
no_goal (Given given) (Some goal) e = absurd (cc)

-- each roster has what a log without given cells opens with
pub holds_plain : (o : Opening) (goal : Option ℕ) (s : List Symbol) → kind_by o goal ≡ WithoutGoal → HoldsOpening o s
holds_plain Full goal s e = tt
holds_plain (Turned t) goal s e = tt
holds_plain (Given given) goal s e = absurd (cc)

-- a log without a goal and without given cells that passes leaves no roster
pub plain_leaves_none : (P : Instance) (g : Log) (s : List Symbol) → Passes P g → kind_of_log g ≡ WithoutGoal → Meets P g.named s → ⊥
plain_leaves_none P g s passes kind met =
    passing_leaves_none P g s passes met (subst (λ goal. HasGoal goal s) (sym (no_goal g.opening g.goal kind)) tt) (holds_plain g.opening g.goal s kind)

-- one with a goal leaves none that has as many free weekends
pub goal_leaves_none : (P : Instance) (g : Log) (s : List Symbol) (goal : ℕ) → Passes P g → g.goal ≡ Some goal → Meets P g.named s → goal ≤ free_weekends s → ⊥
goal_leaves_none P g s goal passes is met has =
    let fits : GoalFits P g.opening (Some goal) = subst (GoalFits P g.opening) is passes.grounded.fits.goal in
    passing_leaves_none P g s passes met (subst (λ o. HasGoal o s) (sym is) has) (subst (λ o. HoldsOpening o s) (sym fits.0) tt)

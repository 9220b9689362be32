use Rattle.std.proofs.Common.{ℕ, ◌↔◌, Option}
use Rattle.rwsp_terms.specs.Instance.{Instance}
use Rattle.domain_store.specs.Looks.{IsSame}
use Rattle.roster_planner.specs.Guided.{IsGuideFor}
use Rattle.roster_planner.proofs.starts.short_searches.Given as goal

abbrev pub invariant-loop-number : goal.invariant-loop-number
invariant-loop-number g l =
    let A = g.A.Propagator in
    record {
      same : IsSame A.serves A.leaves A.spent l.fn.reasons l.reasons;
      guide : (P : Instance) (h : Option ℕ) → IsGuideFor l.fn.guide P h ↔ IsGuideFor l.guide P h;
    }

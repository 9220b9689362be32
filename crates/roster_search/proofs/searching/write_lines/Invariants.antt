use Rattle.std.proofs.Common.{ℕ, Option, ◌↔◌, ◌-◌, length}
use Rattle.rwsp_terms.specs.Instance.{Instance}
use Rattle.domain_store.specs.Looks.{IsSame}
use Rattle.roster_search.specs.Written.{IsSearching, IsLater}
use Rattle.roster_search.proofs.searching.write_lines.Given as goal

abbrev pub invariant-loop-alloc : goal.invariant-loop-alloc
invariant-loop-alloc g l =
    let A = g.A.Propagator in
    record {
      searching : IsSearching l.problem A.serves A.tracks A.leaves l.propagator l.progress;
      later : IsLater l.problem (A.leaves l.fn.propagator) (A.spent l.fn.propagator) l.fn.progress l.progress;
      same : IsSame A.serves A.leaves A.spent l.fn.propagator l.propagator;
      guide : (P : Instance) (h : Option ℕ) → g.G.Guide.serves l.fn.guide P h ↔ g.G.Guide.serves l.guide P h;
    }

abbrev pub decreases-loop-alloc : goal.decreases-loop-alloc
decreases-loop-alloc g l = l.progress.aim.budget - length l.progress.lines.items

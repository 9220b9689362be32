use Rattle.domain_store.specs.Store.{BelongsTo}
use Rattle.roster_planner.proofs.days_off.domains_of.Given as goal

abbrev pub invariant-loop-p : goal.invariant-loop-p
invariant-loop-p l = BelongsTo l.fn.problem l.doms

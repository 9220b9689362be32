use Rattle.domain_store.specs.Store.{BelongsTo}
use Rattle.roster_planner.proofs.off_weights.one_shift_domains.Given as goal

abbrev pub invariant-loop-p : goal.invariant-loop-p
invariant-loop-p l = BelongsTo l.one l.own

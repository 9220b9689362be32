use Rattle.domain_store.specs.Store.{BelongsTo}
use Rattle.roster_planner.proofs.propagation.take_all_spent.Given as goal

abbrev pub invariant-loop : goal.invariant-loop
invariant-loop g l = record {
  serves : g.A.Propagator.serves l.propagator l.problem;
  belongs : BelongsTo l.problem l.doms;
  tracked : g.A.Propagator.tracks l.propagator l.doms;
}

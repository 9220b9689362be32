use Rattle.std.proofs.Common.{ℕ, get_or, false, subst}
use Rattle.ways_out.specs.declared.change.Outcome.TheVariants.{Helps}
use Rattle.ways_out.specs.declared.side_by_side.Placed.{Placed}
use Rattle.ways_out.specs.Helping.{IsOutcome}
use Rattle.ways_out.proofs.side_by_side.outcome_in.Goals as goal

pub returns-then-outcomes-taken : goal.returns-then-outcomes-taken
returns-then-outcomes-taken g c = λ change.
    let P = c.args.refuted.now.asked.problem.now in
    let b = c.args.refuted.now.asked.effort in
    let none : Placed = record { place = 0; outcome = Helps 0 false } in
    subst (λ (i : ℕ). IsOutcome P b (get_or c.args.changes.now i change) (get_or c.args.outcomes.now c.loop-taken.taken none).outcome) c.if-outcomes-taken.true
    (c.requires c.loop-taken.taken none c.loop-taken-test.true change)

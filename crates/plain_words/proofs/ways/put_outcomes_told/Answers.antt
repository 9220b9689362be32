use Rattle.std.proofs.Common.{false, sym, subst, arith}
use Rattle.ways_out.specs.declared.change.Outcome.TheVariants.{Helps}
use Rattle.ways_out.specs.Loosened.{IsChange}
use Rattle.plain_words.proofs.Outcomes.{within, known, way_more}
use Rattle.plain_words.proofs.ways.put_outcomes_told.Goals as goal

pub index-requires : goal.index-requires
index-requires c =
    let less = within c.args.problem.now c.in_ok-changes.changes.items c.args.outcomes.now c.loop-place.place c.requires c.in_ok-changes.ensures.value c.loop-place-test.true in
    omega (arith, less)

pub put_outcome_told-requires-clause-change : goal.put_outcome_told-requires-clause-change
put_outcome_told-requires-clause-change c =
    subst (IsChange c.args.problem.now) (sym c.index.ensures)
    (c.in_ok-changes.ensures.known c.loop-place.place c.index.result.now
    (within c.args.problem.now c.in_ok-changes.changes.items c.args.outcomes.now c.loop-place.place c.requires c.in_ok-changes.ensures.value c.loop-place-test.true))

pub put_outcome_told-requires-clause-steps : goal.put_outcome_told-requires-clause-steps
put_outcome_told-requires-clause-steps c =
    (known c.args.problem.now c.in_ok-changes.changes.items c.args.outcomes.now c.loop-place.place c.index.result.now (Helps 0 false) c.requires c.in_ok-changes.ensures.value c.loop-place-test.true c.index.ensures).steps

pub loop-place-preserved : goal.loop-place-preserved
loop-place-preserved c =
    way_more c.args.problem.now c.in_ok-changes.changes.items c.args.outcomes.now c.loop-place.place c.index.result.now (Helps 0 false) c.args.out.now.items c.loop-place.out.items c.put_outcome_told.new.out.items
    (known c.args.problem.now c.in_ok-changes.changes.items c.args.outcomes.now c.loop-place.place c.index.result.now (Helps 0 false) c.requires c.in_ok-changes.ensures.value c.loop-place-test.true c.index.ensures)
    c.loop-place.invariant c.in_ok-put_outcome_told.ensures

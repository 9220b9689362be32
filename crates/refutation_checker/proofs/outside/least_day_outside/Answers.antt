use Rattle.std.proofs.Common.{◌+◌, List, length, arith, sym, subst}
use Rattle.std.proofs.lemmas.Option.{slice_get-get_or}
use Rattle.rwsp_terms.specs.declared.data.Weight.{Weight}
use Rattle.refutation_log.specs.Cited.{IsWeighedDayRule}
use Rattle.refutation_log.proofs.Adding.{StandsOn, weighed_steps}
use Rattle.refutation_checker.specs.Outside.{IsLeastOutside}
use Rattle.refutation_checker.proofs.Lists.{Below, more_below, all_below, weight_asks}
use Rattle.refutation_checker.proofs.outside.least_day_outside.Goals as goal

pub loop-entry-preserved : goal.loop-entry-preserved
loop-entry-preserved c =
    let P = c.args.problem.now in
    let items = c.entries-entry-items.result.now in
    let i = c.loop-entry.entry-index in
    let list = c.args.named.now in
    subst (IsLeastOutside (Below (StandsOn P items) (i + 1)) list) (sym c.lesser-least.ensures)
    (more_below (StandsOn P items) i list c.loop-entry.least c.day_outside.result c.loop-entry.invariant
    (weight_asks P items i _ list c.day_outside.result (slice_get-get_or items i _ c.loop-entry-test.true) c.day_outside.ensures))

pub returns : goal.returns
returns c =
    let P = c.args.problem.now in
    let items = c.entries-entry-items.result.now in
    let list = c.args.named.now in
    subst (λ (y : List Weight). IsLeastOutside (IsWeighedDayRule P y) list c.loop-entry.least) c.entries-entry-items.ensures.value
    (all_below (StandsOn P items) (IsWeighedDayRule P items) c.loop-entry.entry-index (length items) list c.loop-entry.least (omega (arith, c.loop-entry-test.false)) (weighed_steps P items) c.loop-entry.invariant)

use Rattle.std.proofs.Common.{ℕ, ◌<◌, length, get_or, subst, arith}
use Rattle.std.proofs.lemmas.List.{get_or_default}
use Rattle.ways_out.specs.declared.change.Change.{Change}
use Rattle.ways_out.specs.declared.side_by_side.Placed.{Placed}
use Rattle.ways_out.specs.Helping.{IsOutcome}
use Rattle.ways_out.proofs.Zips.{each_push}
use Rattle.ways_out.proofs.side_by_side.share.Goals as goal

pub loop-preserved : goal.loop-preserved
loop-preserved g c =
    let P = c.args.refuted.now.asked.problem.now in
    let b = c.args.refuted.now.asked.effort in
    let changes = c.args.changes.now in
    let place = c.fetch_add-place.result in
    let outcome = c.in_ok-outcome.outcome in
    let past = c.if-place-changes.false in
    let less : place < length changes = omega (arith, past) in
    each_push (λ (i : ℕ) (o : Placed). (ch : Change) → IsOutcome P b (get_or changes o.place ch) o.outcome) c.loop.outcomes.items _ (record { place = place; outcome = outcome }) c.in_ok-push.ensures.items c.loop.invariant
    (λ ch. subst (λ (change : Change). IsOutcome P b change outcome) (get_or_default changes place _ ch less) c.in_ok-outcome.ensures)

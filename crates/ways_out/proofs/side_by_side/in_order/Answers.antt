use Rattle.std.proofs.Common.{◌≡◌, ℕ, length, get_or, ap, sym, subst, ◌∙◌, arith}
use Rattle.std.proofs.lemmas.List.{length_push}
use Rattle.ways_out.specs.declared.change.Change.{Change}
use Rattle.ways_out.specs.declared.change.Outcome.{Outcome}
use Rattle.ways_out.specs.Helping.{IsOutcome}
use Rattle.ways_out.proofs.Zips.{each_push, zip_from}
use Rattle.ways_out.proofs.side_by_side.in_order.Goals as goal

pub loop-place-preserved : goal.loop-place-preserved
loop-place-preserved g c =
    let P = c.args.refuted.now.asked.problem.now in
    let b = c.args.refuted.now.asked.effort in
    let inv = c.loop-place.invariant in
    let items = c.in_ok-push.ensures.items in
    let more = ap length items ∙ length_push c.loop-place.outcomes.items c.in_ok-outcome_at.field-0 in
    let long = inv.long in
    record {
      long = omega (arith, more, long);
      each = each_push (λ (i : ℕ) (o : Outcome). (ch : Change) → IsOutcome P b (get_or c.args.changes.now i ch) o) c.loop-place.outcomes.items _ c.in_ok-outcome_at.field-0 items inv.each
          (subst (λ (i : ℕ). (ch : Change) → IsOutcome P b (get_or c.args.changes.now i ch) c.in_ok-outcome_at.field-0) (sym inv.long) c.in_ok-outcome_at.ensures);
    }

pub returns : goal.returns
returns g c =
    let P = c.args.refuted.now.asked.problem.now in
    let b = c.args.refuted.now.asked.effort in
    let inv = c.loop-place.invariant in
    let past = c.loop-place-test.false in
    let end = c.loop-place.auto.place-end in
    let long = inv.long in
    let same : length c.args.changes.now ≡ length c.loop-place.outcomes.items = omega (arith, past, end, long) in
    zip_from (IsOutcome P b) c.args.changes.now c.loop-place.outcomes.items same (λ i ch d less. inv.each i d (omega (arith, less, same)) ch)

use Rattle.std.proofs.Common.{sym, subst, arith, get_or, not, ◌==◌}
use Rattle.std.specs.Prelude.{All}
use Rattle.rwsp_terms.specs.declared.data.Weight.{Weight}
use Rattle.rwsp_terms.specs.Weights.{AreWeights, ComesBefore}
use Rattle.rule_reducer.proofs.Kept.{front_weights, before_in_front, no_weight, kept_more, kept_all}
use Rattle.rule_reducer.proofs.lists.weights_elsewhere.Goals as goal

pub put_weight_elsewhere-requires-clause-weights : goal.put_weight_elsewhere-requires-clause-weights
put_weight_elsewhere-requires-clause-weights c =
    subst AreWeights (sym c.loop-entry.invariant)
    (front_weights c.entries-entry-items.result.now c.args.day c.loop-entry.entry-index c.entries-entry-items.ensures.weights (omega arith))

pub put_weight_elsewhere-requires-clause-last : goal.put_weight_elsewhere-requires-clause-last
put_weight_elsewhere-requires-clause-last c =
    let items = c.entries-entry-items.result.now in
    subst (All (λ (e : Weight). ComesBefore e (get_or items c.loop-entry.entry-index no_weight))) (sym c.loop-entry.invariant)
    (before_in_front items c.args.day c.loop-entry.entry-index no_weight c.entries-entry-items.ensures.weights (omega arith))

pub loop-entry-preserved : goal.loop-entry-preserved
loop-entry-preserved c =
    kept_more (λ (e : Weight). not (e.day == c.args.day)) c.entries-entry-items.result.now c.loop-entry.kept c.put_weight_elsewhere.new.kept c.loop-entry.entry-index no_weight
    c.loop-entry.invariant c.in_ok-put_weight_elsewhere.ensures (omega arith)

pub returns : goal.returns
returns c =
    kept_all (λ (e : Weight). not (e.day == c.args.day)) c.entries-entry-items.result.now c.args.weights.now c.loop-entry.kept c.loop-entry.entry-index
    c.loop-entry.invariant (omega arith) c.entries-entry-items.ensures.value

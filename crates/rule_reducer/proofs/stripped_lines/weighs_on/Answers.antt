use Rattle.std.proofs.Common.{◌≢◌, arith}
use Rattle.std.proofs.lemmas.List.Elements.{All-more}
use Rattle.rwsp_terms.specs.declared.data.Weight.{Weight}
use Rattle.rule_reducer.proofs.Stripped.{all_off}
use Rattle.rule_reducer.proofs.stripped_lines.weighs_on.Goals as goal

pub loop-entry-preserved : goal.loop-entry-preserved
loop-entry-preserved c =
    All-more (λ (e : Weight). e.day ≢ c.args.day) c.entries-entry-items.result.now c.loop-entry.entry-index _ (omega arith) c.loop-entry.invariant c.if-entry-day.false

pub returns : goal.returns
returns c =
    λ no. all_off c.args.day c.entries-entry-items.result.now c.args.weights.now c.loop-entry.entry-index c.entries-entry-items.ensures.value (omega arith) c.loop-entry.invariant

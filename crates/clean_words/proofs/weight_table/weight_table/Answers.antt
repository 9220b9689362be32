use Rattle.std.proofs.Common.{◌≡◌, ◌∙◌, arith, rules, w32, to_z, of_z, SFits}
use Rattle.std.proofs.lemmas.Int.{ints}
use Rattle.clean_words.proofs.WeightRows.{holds_more}
use Rattle.clean_words.proofs.weight_table.weight_table.Goals as goal

pub loop-k-preserved : goal.loop-k-preserved
loop-k-preserved c =
    let narrow : SFits w32 c.at.result = search rules in
    let read : to_z w32 (of_z w32 c.at.result) ≡ c.at.result = omega (arith, ints, narrow) in
    rw c.in_ok-push.ensures.items (holds_more c.args.weights.now c.loop-k.table.items c.loop-k.k (to_z w32 (of_z w32 c.at.result)) c.loop-k.invariant (read ∙ c.at.ensures))

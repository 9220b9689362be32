-- The flags so far and one more.
use Rattle.std.proofs.Common.{◌<◌, length, ◌∙◌, arith}
use Rattle.std.proofs.lemmas.List.{length-set}
use Rattle.propagators.specs.Tallies.{is_held}
use Rattle.propagators.proofs.TallyLemmas.{flag_set}
use Rattle.propagators.proofs.recount.held.Goals as goal

pub loop-x-preserved : goal.loop-x-preserved
loop-x-preserved c =
    let within : c.loop-x.x < length c.loop-x.flags = omega (arith, c.loop-x.invariant.long, c.loop-x-test.true) in
    record {
      long = length-set c.loop-x.flags c.loop-x.x c.has.result ∙ c.loop-x.invariant.long;
      done = flag_set c.loop-x.flags c.loop-x.x c.has.result (λ y. is_held y c.args.set.now) within c.loop-x.invariant.done c.has.ensures;
    }

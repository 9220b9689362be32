-- One day more.
use Rattle.std.proofs.Common.{◌≡◌, ◌+◌, pos, ◌∙◌, arith, w32, to_z, of_z}
use Rattle.std.specs.Prelude.{◌≤ℤ◌}
use Rattle.std.specs.Int.{int_max}
use Rattle.std.proofs.lemmas.Int.{ints}
use Rattle.rwsp_terms.specs.Instance.{least}
use Rattle.domain_store.proofs.BlockCounts.{sum_more, max_swapped, max_small}
use Rattle.domain_store.proofs.blocks.least_days.Goals as goal

pub loop-i-preserved : goal.loop-i-preserved
loop-i-preserved c =
    let read : to_z w32 (of_z w32 c.demand_least.result) ≡ c.demand_least.result = omega (arith, ints, c.demand_least.ensures.above, c.demand_least.ensures.below) in
    let one : c.max.result ≡ int_max (pos 0) (least c.args.problem.now c.args.x.number (c.loop-i.i + 1)) = max_swapped c.max.result _ _ c.max.ensures.value (read ∙ c.demand_least.ensures.value) in
    let below : to_z w32 (of_z w32 c.demand_least.result) ≤ℤ pos 600 = omega (arith, ints, c.demand_least.ensures.above, c.demand_least.ensures.below) in
    let small : (pos 0 ≤ℤ c.max.result) × (c.max.result ≤ℤ pos 600) = max_small c.max.result _ c.max.ensures.value below in
    record {
      sum = sum_more _ c.loop-i.i (c.loop-i.i + 1) _ _ _ c.loop-i.invariant.sum one (omega arith) (omega (arith, ints, small.0, small.1, c.loop-i.invariant.some, c.loop-i.invariant.few));
      some = omega (arith, ints, small.0, small.1, c.loop-i.invariant.some, c.loop-i.invariant.few);
      few = omega (arith, ints, small.0, small.1, c.loop-i.invariant.some, c.loop-i.invariant.few);
    }

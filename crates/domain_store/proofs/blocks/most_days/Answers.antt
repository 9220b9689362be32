-- One day more.
use Rattle.std.proofs.Common.{◌≡◌, ◌+◌, pos, neg_ℤ, arith, w32, to_z, of_z}
use Rattle.std.specs.Prelude.{◌≤ℤ◌}
use Rattle.std.specs.Int.{int_min}
use Rattle.std.proofs.lemmas.Int.{ints}
use Rattle.rwsp_terms.specs.Instance.{greatest}
use Rattle.domain_store.proofs.BlockCounts.{sum_more, min_swapped, min_small, min_some, greatest_some}
use Rattle.domain_store.proofs.blocks.most_days.Goals as goal

pub loop-i-preserved : goal.loop-i-preserved
loop-i-preserved c =
    let P = c.args.problem.now in
    let x = c.args.x.number in
    let read : to_z w32 (of_z w32 c.demand_greatest.result) ≡ greatest P x (c.loop-i.i + 1) = omega (arith, ints, c.demand_greatest.ensures.above, c.demand_greatest.ensures.below, c.demand_greatest.ensures.value) in
    let weeks : to_z w32 c.weeks-weeks.result ≡ pos P.weeks = omega (arith, ints, c.weeks-weeks.ensures.value, c.weeks-weeks.ensures.few) in
    let one : c.min.result ≡ int_min (pos P.weeks) (greatest P x (c.loop-i.i + 1)) = min_swapped c.min.result _ _ _ _ c.min.ensures.value read weeks in
    let above : neg_ℤ (pos 4800) ≤ℤ to_z w32 (of_z w32 c.demand_greatest.result) = omega (arith, ints, c.demand_greatest.ensures.above, c.demand_greatest.ensures.below) in
    let below : to_z w32 (of_z w32 c.demand_greatest.result) ≤ℤ pos 600 = omega (arith, ints, c.demand_greatest.ensures.above, c.demand_greatest.ensures.below) in
    let some : pos 0 ≤ℤ to_z w32 c.weeks-weeks.result = omega (arith, ints, weeks) in
    let small : (neg_ℤ (pos 4800) ≤ℤ c.min.result) × (c.min.result ≤ℤ pos 600) = min_small c.min.result _ _ c.min.ensures.value above below some in
    record {
      sum = sum_more _ c.loop-i.i (c.loop-i.i + 1) _ _ _ c.loop-i.invariant.sum one (omega arith) (omega (arith, ints, small.0, small.1, c.loop-i.invariant.above, c.loop-i.invariant.below));
      above = omega (arith, ints, small.0, small.1, c.loop-i.invariant.above, c.loop-i.invariant.below);
      below = omega (arith, ints, small.0, small.1, c.loop-i.invariant.above, c.loop-i.invariant.below);
      shift = λ shift.
          let more : pos 0 ≤ℤ c.min.result = min_some c.min.result _ _ c.min.ensures.value (let h : pos 0 ≤ℤ greatest P x (c.loop-i.i + 1) = greatest_some P x (c.loop-i.i + 1) shift in omega (arith, ints, read, h)) some in
          omega (arith, ints, small.0, small.1, c.loop-i.invariant.above, c.loop-i.invariant.below, c.loop-i.invariant.shift shift, more);
    }

use Rattle.std.proofs.Common.{◌≡◌, ◌+◌, ◌*◌, ◌≤◌, ℕ, ℤ, ap, ◌∙◌, arith, pos, w64, to_z, of_z}
use Rattle.std.specs.Prelude.{Some, ◌+ℤ◌, ◌*ℤ◌}
use Rattle.std.specs.List.{range_with_len}
use Rattle.std.proofs.lemmas.Int.{ints}
use Rattle.rwsp_terms.specs.Instance.{shift_count}
use Rattle.refutation_terms.specs.Word.{int_sum_by, least_weight}
use Rattle.refutation_terms.specs.WordsLeaf.{owed}
use Rattle.clean_words.proofs.Products.{sum_step, reward_small}
use Rattle.clean_words.proofs.totals.total.Goals as goal

small : (c : goal.After-from-2) → c.args.reward * c.args.goal ≤ 601000
small c = reward_small c.args.reward c.args.goal c.requires.reward c.requires.goal

-- both numbers are read as they are
read : (c : goal.After-from-2) → to_z w64 (of_z w64 c.from.result) *ℤ to_z w64 (of_z w64 c.from-2.result) ≡ pos (c.args.reward * c.args.goal)
read c =
    let e : to_z w64 (of_z w64 c.from.result) ≡ pos c.args.reward = omega (arith, ints, c.from.ensures, c.requires.reward) in
    let f : to_z w64 (of_z w64 c.from-2.result) ≡ pos c.args.goal = omega (arith, ints, c.from-2.ensures, c.requires.goal) in
    ap (λ z. z *ℤ to_z w64 (of_z w64 c.from-2.result)) e ∙ ap (λ z. pos c.args.reward *ℤ z) f

pub loop-i-preserved : goal.loop-i-preserved
loop-i-preserved c =
    sum_step _ _ _ _ _ _ _ _ c.loop-i.invariant.0 c.loop-i.invariant.1 c.day_total-sum.ensures.value (omega arith) (omega (arith, ints, c.day_total-sum.ensures.above), omega (arith, ints, c.day_total-sum.ensures.below)) (omega (arith, ints, c.loop-i.invariant.1.0, c.loop-i.invariant.1.1, c.day_total-sum.ensures.above, c.day_total-sum.ensures.below, c.loop-i.auto.i-end, c.loop-i-test.true))

pub overflow_add-sum : goal.overflow_add-sum
overflow_add-sum c = omega (arith, ints, c.loop-i.invariant.1.0, c.loop-i.invariant.1.1, c.day_total-sum.ensures.above, c.day_total-sum.ensures.below, c.loop-i.auto.i-end, c.days-i-end.ensures.few)

pub overflow_mul-result : goal.overflow_mul-result
overflow_mul-result c = omega (arith, ints, read c, small c)

pub overflow_add-result : goal.overflow_add-result
overflow_add-result c = omega (arith, ints, read c, small c, c.loop-i.invariant.1.0, c.loop-i.invariant.1.1, c.loop-i.auto.i-end, c.days-i-end.ensures.few)

whole : (c : goal.After-from-2) → to_z w64 c.loop-i.sum-bits +ℤ pos (c.args.reward * c.args.goal) ≡ owed c.args.problem.now (Some c.args.goal) c.args.weights.now c.args.reward
whole c =
    let all : c.loop-i.i ≡ c.args.problem.now.days = omega (arith, c.loop-i.auto.i-end, c.loop-i-test.false, c.days-i-end.ensures.value) in
    ap (λ (z : ℤ). z +ℤ pos (c.args.reward * c.args.goal)) (c.loop-i.invariant.0 ∙ ap (λ (n : ℕ). int_sum_by (λ j. int_sum_by (λ x. least_weight c.args.problem.now c.args.weights.now j x) (range_with_len 0 (shift_count c.args.problem.now + 1))) (range_with_len 1 n)) all)

pub returns-clause-value : goal.returns-clause-value
returns-clause-value c = omega (arith, ints, read c, small c, whole c, c.loop-i.sum-is, c.loop-i.invariant.1.0, c.loop-i.invariant.1.1, c.loop-i.auto.i-end, c.days-i-end.ensures.few)

pub returns-clause-below : goal.returns-clause-below
returns-clause-below c = omega (arith, ints, read c, small c, c.loop-i.sum-is, c.loop-i.invariant.1.0, c.loop-i.invariant.1.1, c.loop-i.auto.i-end, c.days-i-end.ensures.few)

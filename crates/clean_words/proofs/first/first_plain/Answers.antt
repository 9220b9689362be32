use Rattle.std.proofs.Common.{◌≡◌, ◌+◌, ◌*◌, ◌∙◌, ap, length, arith}
use Rattle.rwsp_terms.specs.Instance.{shift_count}
use Rattle.clean_words.proofs.GrowingWeights.{plain_count}
use Rattle.clean_words.proofs.first.first_plain.Goals as goal

pub first_holding-found-requires-clause-few : goal.first_holding-found-requires-clause-few
first_holding-found-requires-clause-few g c κs within =
    let count : length c.deref.result.now ≡ 2 * (shift_count c.problem-problem.result.now + 1) = ap length c.deref.ensures.value ∙ plain_count c.problem-problem.result.now _ c.in_ok-bounds.ensures in
    omega (arith, count, c.prove_limits.ensures.few_shifts)

pub first_holding-found-requires-clause-some : goal.first_holding-found-requires-clause-some
first_holding-found-requires-clause-some g c κs within =
    let count : length c.deref.result.now ≡ 2 * (shift_count c.problem-problem.result.now + 1) = ap length c.deref.ensures.value ∙ plain_count c.problem-problem.result.now _ c.in_ok-bounds.ensures in
    omega (arith, count)

use Rattle.std.proofs.Common.{◌≡◌, ◌+◌, ◌*◌}
use Rattle.std.specs.List.{range_with_len}
use Rattle.rwsp_terms.specs.Instance.{shift_count}
use Rattle.refutation_terms.specs.Word.{int_sum_by, least_weight}
use Rattle.clean_words.proofs.Products.{IsBetween}
use Rattle.clean_words.proofs.totals.total.Given as goal

abbrev pub invariant-loop-i : goal.invariant-loop-i
invariant-loop-i l =
    (l.sum ≡ int_sum_by (λ j. int_sum_by (λ x. least_weight l.problem l.weights j x) (range_with_len 0 (shift_count l.problem + 1))) (range_with_len 1 l.i))
    × IsBetween (43200000 * l.i) l.sum

use Rattle.std.proofs.Common.{◌≡◌, ◌*◌}
use Rattle.std.specs.List.{range_with_len}
use Rattle.refutation_terms.specs.Word.{int_sum_by, least_weight}
use Rattle.clean_words.proofs.Products.{IsBetween}
use Rattle.clean_words.proofs.totals.day_total.Given as goal

abbrev pub invariant-loop-number : goal.invariant-loop-number
invariant-loop-number l =
    (l.sum ≡ int_sum_by (λ x. least_weight l.problem l.weights l.day x) (range_with_len 0 l.number)) × IsBetween (4800000 * l.number) l.sum

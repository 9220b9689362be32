use Rattle.std.proofs.Common.{◌≡◌, ◌++◌, ◌∷◌, []}
use Rattle.std.specs.List.{range_with_len, flat_map}
use Rattle.rwsp_terms.specs.Instance.{shift_count}
use Rattle.refutation_terms.specs.Sharp.{both_signs}
use Rattle.clean_words.proofs.plain.plain_bounds.Given as goal

abbrev pub invariant-loop-i : goal.invariant-loop-i
invariant-loop-i l =
    l.bounds.items ≡ both_signs l.problem (range_with_len 1 (shift_count l.problem)) ++ flat_map (λ x. both_signs l.problem (x ∷ [])) (range_with_len 1 l.i)

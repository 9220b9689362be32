use Rattle.std.proofs.Common.{rules, of_calls, nat_le}
use Rattle.std.proofs.lemmas.Fn.{always_returns_same}
use Rattle.rwsp_model.specs.Sequences.{part_of}
use Rattle.rwsp_model.proofs.Sequences.{ordered_is}
use Rattle.rwsp_model.proofs.validity.are_ordered.Goals as goal

pub returns : goal.returns
returns c =
    ordered_is _ _
    (c.is_sorted_by.ensures.cases (λ a b. nat_le (part_of a) (part_of b))
    (always_returns_same _ _ _ (λ a r f k. search (rules, of_calls))))

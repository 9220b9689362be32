use Rattle.refutation_terms.proofs.Sides.{in_either_side, in_one_side}
use Rattle.refutation_terms.proofs.laws.sides_part_rosters.Goals as goal

pub returns : goal.returns
returns c = record { all = in_either_side; none_twice = in_one_side }

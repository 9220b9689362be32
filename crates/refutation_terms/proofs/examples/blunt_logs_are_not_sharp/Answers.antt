use Rattle.refutation_terms.proofs.ExampleBlunt.{late_dead_is_blunt, late_day_is_blunt, late_bound_is_blunt, free_split_is_blunt, no_turn_is_blunt}
use Rattle.refutation_terms.proofs.examples.blunt_logs_are_not_sharp.Goals as goal

pub returns : goal.returns
returns c = record { dead = late_dead_is_blunt; day = late_day_is_blunt; bound = late_bound_is_blunt; spent = free_split_is_blunt; turn = no_turn_is_blunt }

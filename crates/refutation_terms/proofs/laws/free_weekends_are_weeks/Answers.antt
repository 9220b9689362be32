use Rattle.refutation_terms.proofs.FreeCounts.{free_weekends_weeks, free_weekends_turns}
use Rattle.refutation_terms.proofs.laws.free_weekends_are_weeks.Goals as goal

pub returns : goal.returns
returns c = record { weeks = free_weekends_weeks; turns = free_weekends_turns }

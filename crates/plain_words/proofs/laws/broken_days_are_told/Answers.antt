use Rattle.plain_words.proofs.Outside.{broken_days_are_told}
use Rattle.plain_words.proofs.laws.broken_days_are_told.Goals as goal

pub returns : goal.returns
returns c = broken_days_are_told

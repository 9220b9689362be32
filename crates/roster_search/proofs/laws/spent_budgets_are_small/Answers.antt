-- The law is proved in Volume.antt.
use Rattle.roster_search.proofs.Volume.{spent_budgets_small}
use Rattle.roster_search.proofs.laws.spent_budgets_are_small.Goals as goal

pub returns : goal.returns
returns c = spent_budgets_small

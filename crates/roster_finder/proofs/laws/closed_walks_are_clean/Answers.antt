use Rattle.roster_finder.proofs.ClosedWalks.{closed_is_clean}
use Rattle.roster_finder.proofs.laws.closed_walks_are_clean.Goals as goal

pub returns : goal.returns
returns c = closed_is_clean c.args.automaton.now c.prove_facts.ensures

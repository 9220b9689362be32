use Rattle.roster_finder.proofs.AutomatonSteps.{step_inside}
use Rattle.roster_finder.proofs.nodes.prove_moves.Goals as goal

pub returns : goal.returns
returns c = λ k d lt. step_inside c.args.automaton.now c.prove_facts.ensures k d lt

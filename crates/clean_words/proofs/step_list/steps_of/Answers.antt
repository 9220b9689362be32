use Rattle.std.proofs.Common.{arith}
use Rattle.clean_words.proofs.StepLists.{steps_none, steps_all}
use Rattle.clean_words.proofs.step_list.steps_of.Goals as goal

pub loop-state-init : goal.loop-state-init
loop-state-init c = rw c.new-steps.ensures.items (steps_none c.args.moves.now)

pub returns-clause-ordered : goal.returns-clause-ordered
returns-clause-ordered c = c.loop-state.invariant.ordered

pub returns-clause-all : goal.returns-clause-all
returns-clause-all c =
    steps_all c.args.moves.now c.loop-state.steps.items c.loop-state.state (omega arith) c.loop-state.invariant

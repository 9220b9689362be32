use Rattle.clean_words.specs.Tables.{AreStepsBefore}
use Rattle.clean_words.proofs.step_list.steps_of.Given as goal

abbrev pub invariant-loop-state : goal.invariant-loop-state
invariant-loop-state l = AreStepsBefore l.moves l.steps.items l.state 0

use Rattle.clean_words.specs.Tables.{AreStepsBefore}
use Rattle.clean_words.proofs.step_list.put_steps.Given as goal

abbrev pub invariant-loop-number : goal.invariant-loop-number
invariant-loop-number l = AreStepsBefore l.moves l.fn.steps.items l.state 0 → AreStepsBefore l.moves l.steps.items l.state l.number

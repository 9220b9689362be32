use Rattle.std.proofs.Common.{arith}
use Rattle.clean_words.proofs.StepLists.{steps_next}
use Rattle.clean_words.proofs.step_list.put_steps.Goals as goal

pub returns : goal.returns
returns c = λ a.
    steps_next c.args.moves.now c.loop-number.steps.items c.args.state c.loop-number.number (omega (arith, c.told-moves c.args.state c.requires.state)) (c.loop-number.invariant a)

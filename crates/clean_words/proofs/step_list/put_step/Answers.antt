use Rattle.clean_words.specs.Moves.{move_at}
use Rattle.clean_words.proofs.Leading.{nowhere_by}
use Rattle.clean_words.proofs.StepLists.{steps_with, steps_without}
use Rattle.clean_words.proofs.step_list.put_step.Goals as goal

pub returns-in_ok-push : goal.returns-in_ok-push
returns-in_ok-push c = λ a.
    rw c.in_ok-push.ensures.items (steps_with c.args.moves.now c.args.steps.now.items c.args.state c.args.number c.in-Some.to c.in-Some.is a)

pub returns-in_default : goal.returns-in_default
returns-in_default c =
    steps_without c.args.moves.now c.args.steps.now.items c.args.state c.args.number (nowhere_by (move_at c.args.moves.now c.args.state c.args.number) c.in_default.not-Some)

use Rattle.rwsp_run.proofs.top_call.reply_on.Goals as goal

pub returns-in_ok-tried-in-Trial-clause-answer : goal.returns-in_ok-tried-in-Trial-clause-answer
returns-in_ok-tried-in-Trial-clause-answer g c =
    let said = c.in_ok-tried-in-Trial.ensures in
    rw c.in-Trial.is (rw said.1 said.2)

use Rattle.rwsp_run.proofs.Files.{refusal_said}
use Rattle.rwsp_run.proofs.explained.reply_on_explain.Goals as goal

pub returns-in_ok-explained-in-Some-clause-answer : goal.returns-in_ok-explained-in-Some-clause-answer
returns-in_ok-explained-in-Some-clause-answer g c =
    let read = rw c.as_str.ensures at (rw c.in-Err.is at c.in_ok-subject.ensures.read) in
    let said = rw c.in-Some.is at c.in_ok-words-in-Err.ensures in
    rw c.in_ok-explained-in-Some.ensures.answer (refusal_said (g.S.Shelf.held c.args.shelf.now) c.args.file.now c.in-Err.why c.in-Some.words read.0 read.1 said)

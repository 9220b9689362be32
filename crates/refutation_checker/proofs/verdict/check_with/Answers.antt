use Rattle.refutation_checker.specs.Turns.{judging_under}
use Rattle.refutation_checker.proofs.SoundLines.{judged_below}
use Rattle.refutation_checker.proofs.verdict.check_with.Goals as goal

pub returns : goal.returns
returns g c =
    let P = c.args.problem.now in
    let h = c.in-Ok.header in
    let below = c.in-Ok-lines_below in
    c.verdict_of.ensures P c.args.log.kind c.args.log.bytes.now c.requires.kind c.in-Ok.ensures
    (judged_below (judging_under P h) h.opening below.lines h.body.now c.judge_by_workers-judged.result below.ensures.start below.ensures.bytes
    (rw (c.terms.ensures.goal, c.terms.ensures.counts) at c.judge_by_workers-judged.ensures))

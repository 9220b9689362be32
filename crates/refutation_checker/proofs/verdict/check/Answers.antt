use Rattle.std.proofs.Common.{[]}
use Rattle.refutation_checker.specs.Turns.{judging_under}
use Rattle.refutation_checker.proofs.SoundLines.{judged_below}
use Rattle.refutation_checker.proofs.verdict.check.Goals as goal

pub returns : goal.returns
returns c =
    let P = c.args.problem.now in
    let h = c.in-Ok.header in
    let below = c.in-Ok-lines_below in
    c.verdict_of.ensures P c.args.kind c.args.bytes.now c.requires.kind c.in-Ok.ensures
    (judged_below (judging_under P h) h.opening below.lines h.body.now c.judge_chunk-judged.result below.ensures.start below.ensures.bytes
    (λ o. (rw (c.terms.ensures.goal, c.terms.ensures.counts) at c.judge_chunk-judged.ensures) o []))

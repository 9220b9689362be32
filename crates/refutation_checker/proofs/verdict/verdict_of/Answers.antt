use Rattle.std.proofs.Common.{[]}
use Rattle.refutation_terms.specs.Verdict.{IsRefused}
use Rattle.refutation_log.proofs.LogLines.{fail_along}
use Rattle.refutation_checker.specs.ChunkVerdicts.{AreAllSound, IsChunkRefused}
use Rattle.refutation_checker.specs.Turns.{judging_under}
use Rattle.refutation_checker.proofs.SoundLines.{header_judged, accepted, ends, refused}
use Rattle.refutation_checker.proofs.verdict.verdict_of.Goals as goal

pub returns-in-Ok-true : goal.returns-in-Ok-true
returns-in-Ok-true c P kind text has begins judged =
    let h = c.args.header in
    let J = judging_under P h in
    accepted J kind text h.body.now h.opening (header_judged J kind text h.opening h.body.now has begins) (rw (c.in-Ok-true.is, c.in-Ok-true.field-0-test) at judged)

pub returns-in-Ok-false : goal.returns-in-Ok-false
returns-in-Ok-false c P kind text has begins judged =
    let h = c.args.header in
    let J = judging_under P h in
    ends J kind text h.body.now h.opening (header_judged J kind text h.opening h.body.now has begins) (rw (c.in-Ok-false.is, c.in-Ok-false.field-0-test) at judged)

pub returns-in-Err : goal.returns-in-Err
returns-in-Err c P kind text has begins judged =
    let h = c.args.header in
    let J = judging_under P h in
    fail_along c.in-Err.fail (AreAllSound J h.opening [] h.body.now) _ (IsChunkRefused J h.opening [] h.body.now) (IsRefused P kind text)
    (λ why. refused J kind text h.body.now h.opening why (header_judged J kind text h.opening h.body.now has begins)) (rw c.in-Err.is at judged)

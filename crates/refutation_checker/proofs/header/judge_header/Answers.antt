use Rattle.std.proofs.Common.{sym, subst}
use Rattle.refutation_terms.specs.Verdict.{IsRefused}
use Rattle.refutation_terms.specs.LogText.{header_text}
use Rattle.std.proofs.Common.{◌++◌}
use Rattle.refutation_log.specs.Headers.{IsHeaderRefused}
use Rattle.refutation_log.proofs.LogLines.{fail_along}
use Rattle.refutation_checker.proofs.Passing.{turn_refused}
use Rattle.refutation_checker.proofs.header.judge_header.Goals as goal

pub returns-in-Err : goal.returns-in-Err
returns-in-Err c =
    fail_along c.in-Err.fail _ _ (IsHeaderRefused c.args.problem.now c.args.kind c.args.bytes.now) (IsRefused c.args.problem.now c.args.kind c.args.bytes.now) (λ why h. h.1) c.in-Err.ensures

pub turn_refusal-requires : goal.turn_refusal-requires
turn_refusal-requires c = c.in-Ok.ensures.fits

pub returns-in-None : goal.returns-in-None
returns-in-None c = (c.in-Ok.ensures, c.in-None.ensures)

pub returns : goal.returns
returns c =
    let P = c.args.problem.now in
    let h = c.in-Ok.header in
    let read = c.in-Ok.ensures in
    let why = c.in-Some.why in
    subst (λ text. IsRefused P c.args.kind text why) (sym read.whole)
    (subst (λ kind. IsRefused P kind (header_text P h.named h.opening h.goal h.counts ++ h.body.now) why) read.of_kind
    (turn_refused P h.named h.opening h.goal h.counts h.body.now why c.prove_limits.ensures read.rules read.fits read.in_range c.in-Some.ensures))

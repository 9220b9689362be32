use Rattle.std.proofs.Common.{◌≡◌, ◌∙◌, ap, sym, length, subst, arith, inr}
use Rattle.refutation_terms.specs.Tree.{IsTree}
use Rattle.refutation_terms.specs.Log.{Log}
use Rattle.refutation_checker.specs.LineTexts.{Judging}
use Rattle.refutation_checker.specs.LogVerdicts.{IsRefusedAt}
use Rattle.refutation_checker.proofs.Passing.{all_passed}
use Rattle.refutation_checker.proofs.log_check.tree_cause.Goals as goal

pub returns-in-Some-clause-cause : goal.returns-in-Some-clause-cause
returns-in-Some-clause-cause c =
    inr (c.requires.turn, (c.loop-i.i, subst (λ (J : Judging). IsRefusedAt J.problem c.args.log.now c.loop-i.i c.in-Some.why) c.loop-i.invariant.judge (rw c.in-Some.is at c.in_ok-why.ensures.passed)))

pub returns-clause-cause : goal.returns-clause-cause
returns-clause-cause c =
    let g = c.args.log.now in
    let same : c.lines-count.result.now ≡ g.lines = c.lines-count.ensures.value ∙ ap (λ (h : Log). h.lines) c.log.view_is in
    let end : c.loop-i.i ≡ length c.lines-count.result.now = omega arith in
    let tree = subst (λ (h : Log). IsTree h.lines) c.log.view_is c.lines-count.ensures.tree in
    all_passed c.args.judge.now.problem g c.loop-i.i c.loop-i.walk c.requires.fits c.requires.turn tree (sym (end ∙ ap length same)) c.loop-i.invariant.passed

use Rattle.std.proofs.Common.{◌≡◌, ◌∙◌, length, take, ap, sym, subst, arith, Some}
use Rattle.rwsp_terms.specs.Rules.{rule_of}
use Rattle.refutation_terms.specs.Log.{LineFits, ListsShortOnly}
use Rattle.domain_store.specs.States.{IsStateOf}
use Rattle.refutation_checker.specs.LineTexts.{Judging}
use Rattle.refutation_checker.specs.LogVerdicts.{judging_of}
use Rattle.rule_reducer.proofs.Walking.{not_whole, line_at, line_read, walked_more, told_of, tells_refusal, tells_hold, holds_all}
use Rattle.rule_reducer.proofs.refusing_lines.first_refusing.Goals as goal

pub refuses-requires-clause-state : goal.refuses-requires-clause-state
refuses-requires-clause-state c =
    let g = c.args.log.now in
    let i = c.loop-i.i in
    (g.opening, take i g.lines, subst (λ (J : Judging). IsStateOf J.problem g.opening (take i g.lines) c.loop-i.walk) (sym c.loop-i.invariant.same) c.loop-i.invariant.walked)

pub refuses-requires-clause-fits : goal.refuses-requires-clause-fits
refuses-requires-clause-fits c =
    let g = c.args.log.now in
    let line = c.index-lines-i.result in
    subst (λ (J : Judging). LineFits J.problem J.goal J.counts line) (sym c.loop-i.invariant.same)
    (c.requires.passes.grounded.fits.lines c.loop-i.i line (line_read g.lines _ c.loop-i.i line c.lines-lines.ensures (omega (arith, ap length c.lines-lines.ensures)) c.index-lines-i.is))

pub refuses-requires-clause-short : goal.refuses-requires-clause-short
refuses-requires-clause-short c =
    let g = c.args.log.now in
    let line = c.index-lines-i.result in
    subst (λ (J : Judging). ListsShortOnly J.problem line) (sym c.loop-i.invariant.same)
    (c.requires.passes.grounded.short c.loop-i.i line (line_read g.lines _ c.loop-i.i line c.lines-lines.ensures (omega (arith, ap length c.lines-lines.ensures)) c.index-lines-i.is))

pub refuses-requires-clause-rule : goal.refuses-requires-clause-rule
refuses-requires-clause-rule c = subst (λ (J : Judging). rule_of J.problem c.args.dropped.number ≡ Some c.args.dropped.rule) (sym c.loop-i.invariant.same) c.requires.rule

pub returns-then-refused : goal.returns-then-refused
returns-then-refused c =
    let P = c.args.problem.now in
    let g = c.args.log.now in
    let i = c.loop-i.i in
    let line = c.index-lines-i.result in
    let refused = c.in_ok-refused.refused in
    let here = line_read g.lines _ i line c.lines-lines.ensures (omega (arith, ap length c.lines-lines.ensures)) c.index-lines-i.is in
    tells_refusal P c.args.dropped.number g i line c.loop-i.walk refused here c.requires.passes c.loop-i.invariant.walked
    (told_of (judging_of P g) c.loop-i.judge c.args.dropped.number line c.loop-i.walk refused c.loop-i.invariant.same c.in_ok-refused.ensures.refuses) c.if-refused.true

pub go_past-requires-clause-part : goal.go_past-requires-clause-part
go_past-requires-clause-part c =
    not_whole c.args.problem.now c.args.log.now c.loop-i.i c.loop-i.walk c.requires.passes (omega (arith, ap length c.lines-lines.ensures)) c.loop-i.invariant.walked

pub go_past-requires-clause-holds : goal.go_past-requires-clause-holds
go_past-requires-clause-holds c =
    let g = c.args.log.now in
    let i = c.loop-i.i in
    let line = c.index-lines-i.result in
    let here = line_read g.lines _ i line c.lines-lines.ensures (omega (arith, ap length c.lines-lines.ensures)) c.index-lines-i.is in (
      g.goal,
      g.counts,
      c.requires.passes.grounded.fits.lines i line here,
      (g.opening, take i g.lines, c.loop-i.invariant.walked, line_at c.args.problem.now g i line here c.requires.passes),
    )

pub loop-i-preserved : goal.loop-i-preserved
loop-i-preserved c =
    let P = c.args.problem.now in
    let g = c.args.log.now in
    let i = c.loop-i.i in
    let line = c.index-lines-i.result in
    let refused = c.in_ok-refused.refused in
    let here = line_read g.lines _ i line c.lines-lines.ensures (omega (arith, ap length c.lines-lines.ensures)) c.index-lines-i.is in
    record {
      same = c.refuses.ensures.same ∙ c.loop-i.invariant.same;
      walked = walked_more P g.opening g.lines i line c.go_past.new.walk here (c.in_ok-go_past.ensures P g.opening (take i g.lines) c.loop-i.invariant.walked);
      held = tells_hold P c.args.dropped.number g i line c.loop-i.walk refused here c.requires.passes c.loop-i.invariant.walked
          (told_of (judging_of P g) c.loop-i.judge c.args.dropped.number line c.loop-i.walk refused c.loop-i.invariant.same c.in_ok-refused.ensures.refuses) c.if-refused.false c.loop-i.invariant.held;
    }

pub returns : goal.returns
returns c = holds_all c.args.problem.now c.args.dropped.number c.args.log.now c.loop-i.i (omega (arith, ap length c.lines-lines.ensures)) c.loop-i.invariant.held

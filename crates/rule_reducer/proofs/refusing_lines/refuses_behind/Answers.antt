use Rattle.std.proofs.Common.{IsTrue, take, sym, subst}
use Rattle.std.proofs.lemmas.Result.{IfOk-weaker}
use Rattle.refutation_terms.specs.Log.{LineFits, ListsShortOnly, Passes}
use Rattle.refutation_terms.specs.Strip.{strip}
use Rattle.domain_store.specs.States.{IsStateOf}
use Rattle.refutation_checker.specs.LineTexts.{Judging}
use Rattle.refutation_checker.specs.LogVerdicts.{judging_of}
use Rattle.rule_reducer.specs.Without.{TellsWithout}
use Rattle.rule_reducer.proofs.Walking.{line_read, told_of, tells_refusal}
use Rattle.rule_reducer.proofs.refusing_lines.refuses_behind.Goals as goal

pub judge_of-judge-requires : goal.judge_of-judge-requires
judge_of-judge-requires c = c.requires.passes.grounded.fits

pub refuses-refused-requires-clause-state : goal.refuses-refused-requires-clause-state
refuses-refused-requires-clause-state c =
    let g = c.args.log.now in
    let earlier = take c.args.place g.lines in
    (g.opening, earlier, subst (λ (J : Judging). IsStateOf J.problem g.opening earlier c.in_ok-walk.walk) (sym c.judge_of-judge.ensures) c.in_ok-walk.ensures)

pub refuses-refused-requires-clause-fits : goal.refuses-refused-requires-clause-fits
refuses-refused-requires-clause-fits c =
    let line = c.index-lines-place.result in
    subst (λ (J : Judging). LineFits J.problem J.goal J.counts line) (sym c.judge_of-judge.ensures)
    (c.requires.passes.grounded.fits.lines c.args.place line (line_read c.args.log.now.lines _ c.args.place line c.lines-lines.ensures c.requires.place c.index-lines-place.is))

pub refuses-refused-requires-clause-short : goal.refuses-refused-requires-clause-short
refuses-refused-requires-clause-short c =
    let line = c.index-lines-place.result in
    subst (λ (J : Judging). ListsShortOnly J.problem line) (sym c.judge_of-judge.ensures)
    (c.requires.passes.grounded.short c.args.place line (line_read c.args.log.now.lines _ c.args.place line c.lines-lines.ensures c.requires.place c.index-lines-place.is))

pub returns : goal.returns
returns c =
    let P = c.args.problem.now in
    let g = c.args.log.now in
    let n = c.args.dropped.number in
    let line = c.index-lines-place.result in
    let walk = c.in_ok-walk.walk in
    let here = line_read g.lines _ c.args.place line c.lines-lines.ensures c.requires.place c.index-lines-place.is in
    IfOk-weaker c.refuses-refused.result
    (TellsWithout c.judge_of-judge.result n line walk)
    (λ yes. IsTrue yes → Passes P (strip P n g) → ⊥)
    (λ yes told. tells_refusal P n g c.args.place line walk yes here c.requires.passes c.in_ok-walk.ensures (told_of (judging_of P g) c.judge_of-judge.result n line walk yes c.judge_of-judge.ensures told))
    c.refuses-refused.ensures.refuses

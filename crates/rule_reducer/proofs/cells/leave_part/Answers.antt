use Rattle.std.proofs.Common.{◌∙◌, subst, sym}
use Rattle.refutation_terms.specs.Log.{Fits}
use Rattle.refutation_checker.specs.LogVerdicts.{with_opening}
use Rattle.rule_reducer.proofs.Leaving.{outside_fits, part_left, part_empty}
use Rattle.rule_reducer.proofs.cells.leave_part.Goals as goal

pub returns-then-cell_count-clause-left : goal.returns-then-cell_count-clause-left
returns-then-cell_count-clause-left c =
    part_empty c.args.problem.now c.args.log.now c.args.part.from c.args.part.to c.args.opening.now c.in_ok-rest.rest c.in_ok-rest.ensures c.requires.passes
    (sym c.cell_count.ensures ∙ c.if-cell_count.true ∙ c.cell_count-2.ensures)

pub passes_by-judged-requires-clause-fits : goal.passes_by-judged-requires-clause-fits
passes_by-judged-requires-clause-fits c =
    let P = c.args.problem.now in
    let g = c.args.log.now in
    subst (λ o. Fits P (with_opening o g)) (sym c.in_ok-rest.ensures) (outside_fits P c.args.part.from c.args.part.to c.args.opening.now g c.requires.passes.grounded.fits)

pub returns-then-passes-clause-left : goal.returns-then-passes-clause-left
returns-then-passes-clause-left c =
    part_left c.args.problem.now c.args.log.now c.args.part.from c.args.part.to c.args.opening.now c.in_ok-rest.rest c.in_ok-rest.ensures
    (λ same. c.if-cell_count.false (c.cell_count.ensures ∙ same ∙ sym c.cell_count-2.ensures))
    (c.in_ok-passes.ensures.passes.0 c.if-passes.true)

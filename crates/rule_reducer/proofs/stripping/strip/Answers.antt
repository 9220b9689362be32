use Rattle.std.proofs.Common.{◌∙◌, ap, sym, subst}
use Rattle.rwsp_model.proofs.Numbering.{one_number}
use Rattle.refutation_terms.specs.Log.{Log, Fits}
use Rattle.refutation_terms.specs.Tree.{IsTree}
use Rattle.refutation_terms.specs.Strip.{strip}
use Rattle.rule_reducer.proofs.Strips.{fits_still, tree_stays}
use Rattle.rule_reducer.proofs.stripping.strip.Goals as goal

pub into_log-requires : goal.into_log-requires
into_log-requires c =
    let P = c.args.problem.now in
    let n = c.number_of-number.result in
    let g = c.args.log.now in
    subst (λ (x : Log). IsTree x.lines) (sym (c.in_ok-strip.ensures P c.number_of-number.ensures.value ∙ ap (strip P n) (c.of-kept.ensures ∙ c.in_ok-own.ensures)))
    (tree_stays P n g.lines c.lines-tree.ensures.tree)

pub returns-clause-value : goal.returns-clause-value
returns-clause-value c =
    λ n is.
    let P = c.args.problem.now in
    let m = c.number_of-number.result in
    c.into_log.ensures ∙ c.in_ok-strip.ensures P c.number_of-number.ensures.value ∙ ap (strip P m) (c.of-kept.ensures ∙ c.in_ok-own.ensures)
    ∙ ap (λ k. strip P k c.args.log.now) (one_number P m n c.args.rule c.number_of-number.ensures.value is)

pub returns-clause-fits : goal.returns-clause-fits
returns-clause-fits c =
    let P = c.args.problem.now in
    let m = c.number_of-number.result in
    let g = c.args.log.now in
    subst (Fits P) (sym (c.into_log.ensures ∙ c.in_ok-strip.ensures P c.number_of-number.ensures.value ∙ ap (strip P m) (c.of-kept.ensures ∙ c.in_ok-own.ensures))) (fits_still P m g c.requires.fits)

use Rattle.std.proofs.Common.{length, sym, subst}
use Rattle.refutation_terms.specs.Tree.{domains_at}
use Rattle.refutation_terms.specs.Log.{LineFits, ListsShortOnly, Holds}
use Rattle.rule_reducer.proofs.Strips.{line_fits_still}
use Rattle.rule_reducer.proofs.Stripped.{short_still}
use Rattle.rule_reducer.proofs.Walking.{refuses_here}
use Rattle.rule_reducer.proofs.refusing_lines.refuses.Goals as goal

pub holds-judged-requires-clause-fits : goal.holds-judged-requires-clause-fits
holds-judged-requires-clause-fits c =
    let J = c.args.judge.now in
    subst (LineFits J.problem J.goal J.counts) (sym (c.in_ok-stripped.ensures J.problem c.requires.rule)) (line_fits_still J.problem c.args.dropped.number J.goal J.counts c.args.line.now c.requires.fits)

pub holds-judged-requires-clause-short : goal.holds-judged-requires-clause-short
holds-judged-requires-clause-short c =
    let P = c.args.judge.now.problem in
    subst (ListsShortOnly P) (sym (c.in_ok-stripped.ensures P c.requires.rule)) (short_still P c.args.dropped.number c.args.line.now c.requires.short)

pub returns-then-lists-clause-refuses : goal.returns-then-lists-clause-refuses
returns-then-lists-clause-refuses c =
    λ o lines state holds.
    let P = c.args.judge.now.problem in
    refuses_here P c.args.judge.now.goal (domains_at P o lines (length lines)) c.args.dropped.number c.args.line.now c.in_ok-stripped.stripped c.in_ok-holds.holds (c.lists.ensures.leaf c.if-lists.true)
    (c.in_ok-stripped.ensures P c.requires.rule) (c.in_ok-holds.ensures.holds o lines state)

pub returns-clause-refuses : goal.returns-clause-refuses
returns-clause-refuses c =
    λ o lines state holds.
    let P = c.args.judge.now.problem in
    subst (Holds P c.args.judge.now.goal (domains_at P o lines (length lines))) (sym (c.lists.ensures.same c.if-lists.false P c.requires.rule)) holds

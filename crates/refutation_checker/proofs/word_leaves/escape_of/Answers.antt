-- The list of the leaf is that of the automaton.
use Rattle.std.proofs.Common.{ap, ◌∙◌, sym, subst}
use Rattle.refutation_terms.specs.declared.lines.Leaf.{Leaf}
use Rattle.refutation_terms.specs.declared.lines.Line.{Line}
use Rattle.refutation_terms.specs.declared.lines.Line.TheVariants.{Closing}
use Rattle.refutation_terms.specs.Log.{LineFits}
use Rattle.domain_store.specs.Store.{has_domain}
use Rattle.refutation_checker.proofs.LeafJudging.{IsAnswered, with_list}
use Rattle.refutation_checker.proofs.word_leaves.escape_of.Goals as goal

pub words_escape-requires-clause-fits : goal.words_escape-requires-clause-fits
words_escape-requires-clause-fits c =
    let A = c.args.automaton.now in
    let leaf = c.in-Words in
    subst (λ (l : Line). LineFits A.problem c.args.terms.goal c.args.terms.counts l)
    (with_list c.args.line.now A.rules leaf.rules leaf.p leaf.claim (c.in-Closing.is ∙ ap (λ (l : Leaf). Closing l) leaf.is) c.requires.list) c.requires.line

pub returns-in-Words : goal.returns-in-Words
returns-in-Words c =
    let A = c.args.automaton.now in
    let leaf = c.in-Words in
    subst (λ (l : Line). IsAnswered A.problem c.args.terms.goal (has_domain c.args.doms.now) l c.words_escape.result)
    (sym (with_list c.args.line.now A.rules leaf.rules leaf.p leaf.claim (c.in-Closing.is ∙ ap (λ (l : Leaf). Closing l) leaf.is) c.requires.list)) c.words_escape.ensures

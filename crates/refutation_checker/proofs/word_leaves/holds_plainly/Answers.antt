use Rattle.std.proofs.Common.{ℕ, Option, ap, ◌∙◌, sym, subst, IsTrue, IfOk}
use Rattle.refutation_terms.specs.declared.lines.Leaf.{Leaf}
use Rattle.refutation_terms.specs.declared.lines.Line.{Line}
use Rattle.refutation_terms.specs.declared.lines.Line.TheVariants.{Closing}
use Rattle.refutation_terms.specs.Log.{LineFits}
use Rattle.domain_store.specs.Store.{has_domain}
use Rattle.refutation_checker.specs.LineVerdicts.{HoldsByWords}
use Rattle.refutation_checker.proofs.word_leaves.holds_plainly.Goals as goal

pub words_plainly-requires-clause-fits : goal.words_plainly-requires-clause-fits
words_plainly-requires-clause-fits c =
    let fits = c.requires.line in
    (fits.0, subst (λ (l : Line). LineFits c.args.problem.now fits.0 fits.1 l) (c.in-Closing.is ∙ ap (λ (l : Leaf). Closing l) c.in-Words.is) fits.2)

pub returns-in-Words : goal.returns-in-Words
returns-in-Words c =
    subst (λ (l : Line). IfOk c.words_plainly.result (λ plain. IsTrue plain → (goal : Option ℕ) → HoldsByWords c.args.problem.now goal (has_domain c.args.doms.now) l))
    (sym (c.in-Closing.is ∙ ap (λ (l : Leaf). Closing l) c.in-Words.is)) c.words_plainly.ensures

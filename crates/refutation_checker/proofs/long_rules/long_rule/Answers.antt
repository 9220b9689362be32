-- The list of the line is the list that was searched.
use Rattle.std.proofs.Common.{sym, subst, ap, ◌∙◌}
use Rattle.std.specs.Prelude.{MatchOption}
use Rattle.refutation_terms.specs.declared.lines.Line.{Line}
use Rattle.refutation_terms.specs.declared.lines.Line.TheVariants.{Closing}
use Rattle.refutation_terms.specs.declared.lines.Leaf.{Leaf}
use Rattle.refutation_terms.specs.Log.{ListsShortOnly}
use Rattle.refutation_terms.specs.Verdict.{IsLeast, ListsLong}
use Rattle.refutation_checker.proofs.long_rules.long_rule.Goals as goal

pub returns-in-Words : goal.returns-in-Words
returns-in-Words c =
    let P = c.args.problem.now in
    subst (λ (line : Line). MatchOption c.least_long.result (ListsShortOnly P line) (λ k. IsLeast (ListsLong P line) k)) (sym (c.in-Closing.is ∙ ap (λ (l : Leaf). Closing l) c.in-Words.is)) c.least_long.ensures

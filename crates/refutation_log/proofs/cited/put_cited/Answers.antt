use Rattle.refutation_terms.specs.Log.{Cites}
use Rattle.refutation_log.proofs.Adding.{on_ok}
use Rattle.refutation_log.proofs.CitedRules.{names_added, line_numbered}
use Rattle.refutation_log.proofs.cited.put_cited.Goals as goal

pub returns-clause-names : goal.returns-clause-names
returns-clause-names c =
    let P = c.args.problem.now in
    on_ok c.put_line_cited.result _ _ (names_added P _ _ (Cites P c.args.line.now) (line_numbered P c.requires.0 c.requires.1 c.args.line.now c.requires.2)) c.put_line_cited.ensures.ok

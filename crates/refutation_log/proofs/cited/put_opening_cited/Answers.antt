use Rattle.refutation_log.proofs.Adding.{on_ok}
use Rattle.refutation_log.proofs.CitedRules.{adds_cited, day_cited, names_added, opening_numbered}
use Rattle.refutation_terms.specs.Log.{OpeningCites}
use Rattle.refutation_log.proofs.cited.put_opening_cited.Goals as goal

pub returns-in-Turned-clause-ok : goal.returns-in-Turned-clause-ok
returns-in-Turned-clause-ok c =
    let P = c.args.problem.now in
    rw c.in-Turned.is (adds_cited P _ _ c.put_day_rule.result _ _ (day_cited P c.in-Turned.turn.day) c.put_day_rule.ensures.ok)

pub returns-in-Turned-clause-names : goal.returns-in-Turned-clause-names
returns-in-Turned-clause-names c =
    let P = c.args.problem.now in
    on_ok c.put_day_rule.result _ _ (names_added P _ _ (OpeningCites c.args.opening.now) (opening_numbered P c.args.opening.now c.requires))
    (rw c.in-Turned.is (adds_cited P _ _ c.put_day_rule.result _ _ (day_cited P c.in-Turned.turn.day) c.put_day_rule.ensures.ok))

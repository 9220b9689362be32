use Rattle.refutation_log.proofs.CitedRules.{adds_cited, adds_some_cited, listed_cited, weighed_cited}
use Rattle.refutation_log.proofs.leaf.put_words_cited.Goals as goal

pub returns-in-Dead-clause-ok : goal.returns-in-Dead-clause-ok
returns-in-Dead-clause-ok c =
    let P = c.args.problem.now in
    rw c.in-Dead.is (adds_cited P _ _ c.put_all.result _ _ (listed_cited P c.args.listed.now (rw c.in-Dead.is at c.requires)) c.put_all.ensures.ok)

pub returns-in-Dead-clause-err : goal.returns-in-Dead-clause-err
returns-in-Dead-clause-err c =
    let P = c.args.problem.now in
    rw c.in-Dead.is (adds_some_cited P _ _ c.put_all.result _ _ (listed_cited P c.args.listed.now (rw c.in-Dead.is at c.requires)) c.put_all.ensures.err)

pub returns-in-Light-clause-ok : goal.returns-in-Light-clause-ok
returns-in-Light-clause-ok c =
    let P = c.args.problem.now in
    let fits = rw c.in-Light.is at c.requires in
    rw c.in-Light.is (adds_cited P _ _ c.put_listed_and_days.result _ _ (weighed_cited P c.args.listed.now c.in-Light.weights fits.0 fits.1.0) c.put_listed_and_days.ensures.ok)

pub returns-in-Light-clause-err : goal.returns-in-Light-clause-err
returns-in-Light-clause-err c =
    let P = c.args.problem.now in
    let fits = rw c.in-Light.is at c.requires in
    rw c.in-Light.is (adds_some_cited P _ _ c.put_listed_and_days.result _ _ (weighed_cited P c.args.listed.now c.in-Light.weights fits.0 fits.1.0) c.put_listed_and_days.ensures.err)

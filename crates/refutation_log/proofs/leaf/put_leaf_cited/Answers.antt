use Rattle.refutation_log.proofs.CitedRules.{adds_cited, window_cited, day_cited, list_and_claim_fit}
use Rattle.refutation_log.proofs.leaf.put_leaf_cited.Goals as goal

pub returns-in-Window-clause-ok : goal.returns-in-Window-clause-ok
returns-in-Window-clause-ok c =
    let P = c.args.problem.now in
    rw c.in-Window.is (adds_cited P _ _ c.put.result _ _ (window_cited P c.in-Window.rule c.in-Window.p c.in-Window.len (rw c.in-Window.is at c.requires.2)) c.put.ensures.holds)

pub returns-in-Day-clause-ok : goal.returns-in-Day-clause-ok
returns-in-Day-clause-ok c =
    let P = c.args.problem.now in
    rw c.in-Day.is (adds_cited P _ _ c.put_day_rule.result _ _ (day_cited P c.in-Day.day) c.put_day_rule.ensures.ok)

pub put_words_cited-requires : goal.put_words_cited-requires
put_words_cited-requires c =
    list_and_claim_fit c.args.problem.now c.requires.0 c.in-Words.p c.in-Words.listed c.in-Words.claim (rw c.in-Words.is at c.requires.2)

pub returns-in-Words-clause-ok : goal.returns-in-Words-clause-ok
returns-in-Words-clause-ok c = rw c.in-Words.is c.put_words_cited.ensures.ok

pub returns-in-Words-clause-err : goal.returns-in-Words-clause-err
returns-in-Words-clause-err c = rw c.in-Words.is c.put_words_cited.ensures.err

pub returns-in-Blocks-clause-ok : goal.returns-in-Blocks-clause-ok
returns-in-Blocks-clause-ok c = rw c.in-Blocks.is c.put_blocks_cited.ensures.ok

pub returns-in-Blocks-clause-err : goal.returns-in-Blocks-clause-err
returns-in-Blocks-clause-err c = rw c.in-Blocks.is c.put_blocks_cited.ensures.err

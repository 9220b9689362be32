use Rattle.refutation_log.proofs.cited.put_line_cited.Goals as goal

pub returns-in-Closing-clause-ok : goal.returns-in-Closing-clause-ok
returns-in-Closing-clause-ok c =
    rw c.in-Closing.is c.put_leaf_cited.ensures.ok

pub returns-in-Closing-clause-err : goal.returns-in-Closing-clause-err
returns-in-Closing-clause-err c =
    rw c.in-Closing.is c.put_leaf_cited.ensures.err

use Rattle.domain_store.specs.Store.{has_domain}
use Rattle.refutation_checker.proofs.LeafJudging.{dead_holds}
use Rattle.refutation_checker.proofs.word_leaves.words_plainly.Goals as goal

pub returns : goal.returns
returns c =
    dead_holds c.args.problem.now (has_domain c.args.doms.now) c.args.p c.in-Dead.len c.args.rules.now c.args.claim.now c.has_no_clean.result c.in-Dead.is c.has_no_clean.ensures

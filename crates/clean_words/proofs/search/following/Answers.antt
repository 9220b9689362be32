use Rattle.domain_store.specs.Store.{has_domain}
use Rattle.clean_words.proofs.Searching.{followed}
use Rattle.clean_words.proofs.search.following.Goals as goal

pub returns : goal.returns
returns c =
    let top = c.args.top.now in
    followed _ _ (has_domain top.domains.now) _ _ _ _ _ _ c.in_ok-word.ensures c.in-Some.is c.problem.ensures c.symbols.ensures c.in_ok-next.ensures

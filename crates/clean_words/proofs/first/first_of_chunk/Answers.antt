use Rattle.refutation_terms.specs.Sharp.{HoldsAtTop}
use Rattle.domain_store.specs.Store.{has_domain}
use Rattle.clean_words.proofs.Chunks.{not_more}
use Rattle.clean_words.proofs.first.first_of_chunk.Goals as goal

pub loop-i-preserved : goal.loop-i-preserved
loop-i-preserved g c =
    not_more (HoldsAtTop c.args.top.now.automaton.now.problem (has_domain c.args.top.now.domains.now) c.args.top.now.automaton.now.rules) _ _ _ _ c.loop-i.invariant c.loop-i-test.true c.index-bounds-i.is c.in_ok-holds.ensures c.if-branch.false

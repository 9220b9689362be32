use Rattle.domain_store.specs.Store.{has_domain}
use Rattle.clean_words.proofs.Searching.{IsReached}
use Rattle.clean_words.proofs.search.search_weights.Given as goal

abbrev pub invariant-loop-round : goal.invariant-loop-round
invariant-loop-round l = IsReached l.automaton.problem (has_domain l.doms) l.automaton.rules l.round l.weights

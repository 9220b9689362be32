use Rattle.std.proofs.Common.{ℕ, ◌<◌, [], get_or}
use Rattle.refutation_terms.specs.Sharp.{HoldsAtTop}
use Rattle.domain_store.specs.Store.{has_domain}
use Rattle.clean_words.proofs.first.first_of_chunk.Given as goal

abbrev pub invariant-loop-i : goal.invariant-loop-i
invariant-loop-i g l = (k : ℕ) → k < l.i → HoldsAtTop l.top.automaton.now.problem (has_domain l.top.domains.now) l.top.automaton.now.rules (get_or l.bounds k []) → ⊥

use Rattle.domain_store.specs.Store.{has_domain}
use Rattle.refutation_checker.specs.ShortWords.{AreStates}
use Rattle.refutation_checker.proofs.ShortWords.{HaveLed}
use Rattle.refutation_checker.proofs.short_words.is_plainly_dead.Given as goal

abbrev pub invariant-loop-day : goal.invariant-loop-day
invariant-loop-day l = record {
  states : AreStates l.automaton l.states.items;
  led : HaveLed l.automaton (has_domain l.doms) l.p l.len l.day l.states.items;
}

use Rattle.domain_store.specs.Store.{has_domain}
use Rattle.refutation_checker.specs.ShortWords.{AreStates, GoOn, HaveAll, by_move}
use Rattle.refutation_checker.proofs.short_words.put_later.Given as goal

abbrev pub invariant-loop-number : goal.invariant-loop-number
invariant-loop-number l = record {
  keeps : HaveAll l.initial.later.items l.later.items;
  states : AreStates l.automaton l.later.items;
  goes_on : GoOn (has_domain l.doms l.position) l.number (by_move l.automaton l.state) l.later.items;
}

use Rattle.std.proofs.Common.{◌+◌}
use Rattle.std.specs.List.{AllWithin}
use Rattle.rwsp_terms.specs.Instance.{shift_count}
use Rattle.domain_store.specs.Store.{has_domain}
use Rattle.refutation_checker.specs.ShortWords.{AreStates, GoOn, by_move}
use Rattle.refutation_checker.proofs.short_words.day_later.Given as goal

abbrev pub invariant-loop-place : goal.invariant-loop-place
invariant-loop-place l = record {
  states : AreStates l.automaton l.later.items;
  go_on : AllWithin (λ state. GoOn (has_domain l.doms l.position) (shift_count l.automaton.problem + 1) (by_move l.automaton state) l.later.items) l.states 0 l.place;
}

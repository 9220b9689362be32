use Rattle.std.proofs.Common.{◌+◌}
use Rattle.std.specs.List.{AllWithin}
use Rattle.rwsp_terms.specs.Instance.{shift_count}
use Rattle.domain_store.specs.Store.{has_domain}
use Rattle.refutation_checker.specs.ShortWords.{AreShort, GoOn, by_symbol}
use Rattle.refutation_checker.proofs.tried_words.day_longer.Given as goal

abbrev pub invariant-loop-i : goal.invariant-loop-i
invariant-loop-i l = record {
  words : AreShort (l.day + 1) l.longer.items;
  go_on : AllWithin (λ word. GoOn (has_domain l.tries.domains.now l.place) (shift_count l.tries.problem.now + 1) (by_symbol l.tries.problem.now l.tries.rules.now l.tries.position word) l.longer.items) l.words 0 l.i;
}

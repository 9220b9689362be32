use Rattle.domain_store.specs.Store.{has_domain}
use Rattle.refutation_checker.specs.ShortWords.{AreShort, HaveClean}
use Rattle.refutation_checker.proofs.tried_words.has_no_clean.Given as goal

abbrev pub invariant-loop-day : goal.invariant-loop-day
invariant-loop-day l = record {
  short : AreShort l.day l.words.items;
  clean : HaveClean l.tries.problem.now (has_domain l.tries.domains.now) l.tries.rules.now l.tries.position l.day l.words.items;
}

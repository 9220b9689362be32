use Rattle.clean_words.proofs.CleanByRules.{SpareTo}
use Rattle.clean_words.proofs.clean.is_clean.Given as goal

abbrev pub invariant-loop-place : goal.invariant-loop-place
invariant-loop-place l = SpareTo l.problem l.list l.p l.word l.place

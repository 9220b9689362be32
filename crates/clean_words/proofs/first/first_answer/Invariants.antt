use Rattle.std.proofs.Common.{◌≡◌, drop}
use Rattle.clean_words.specs.First.{first_answer}
use Rattle.clean_words.proofs.first.first_answer.Given as goal

abbrev pub invariant-loop-answer : goal.invariant-loop-answer
invariant-loop-answer l = first_answer (drop l.answer-index l.answers) ≡ first_answer l.answers

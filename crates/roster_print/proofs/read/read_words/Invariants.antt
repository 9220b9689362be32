use Rattle.std.proofs.Common.{◌≡◌, ◌++◌, Some, map, drop}
use Rattle.roster_print.specs.Said.{said_of}
use Rattle.roster_print.specs.Reading.{words_at}
use Rattle.roster_print.proofs.read.read_words.Given as goal

abbrev pub invariant-loop-word : goal.invariant-loop-word
invariant-loop-word l = map Some l.said.items ++ map (said_of l.problem l.lets_open) (words_at l.text (drop l.word-index l.words)) ≡ map Some l.fn.said.items ++ map (said_of l.problem l.lets_open) (words_at l.text l.words)

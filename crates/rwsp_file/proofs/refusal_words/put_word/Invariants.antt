use Rattle.std.proofs.Common.{◌≡◌, ◌++◌, take}
use Rattle.std.specs.List.{flat_map}
use Rattle.rwsp_file.specs.RefusalWords.{byte_text}
use Rattle.rwsp_file.proofs.refusal_words.put_word.Given as goal

abbrev pub invariant-loop-i : goal.invariant-loop-i
invariant-loop-i l = l.out.items ≡ l.fn.out.items ++ flat_map byte_text (take l.i l.word)

use Rattle.std.proofs.Common.{codes, decimal}
use Rattle.rwsp_file.specs.RefusalWords.{shown_word}
use Rattle.rwsp_file.proofs.Pieces.{two_and_two}
use Rattle.rwsp_file.proofs.refusal_words.put_clock.Goals as goal

pub returns : goal.returns
returns c = two_and_two c.args.out.now.items _ _ _ (codes "times are minutes from midnight: ") (shown_word c.args.word.now) (codes " is ") (decimal c.args.minutes) c.in_ok-extend_from_slice.ensures.items c.in_ok-put_word.ensures c.in_ok-put_numbered.ensures

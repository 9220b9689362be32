use Rattle.std.proofs.Common.{codes, decimal}
use Rattle.rwsp_file.specs.RefusalWords.{place_text}
use Rattle.rwsp_file.proofs.Pieces.{three_pieces}
use Rattle.rwsp_file.proofs.refusal_words.put_word_count.Goals as goal

pub returns : goal.returns
returns c = three_pieces c.args.out.now.items _ _ _ (place_text c.args.awaited) (codes " has five or six words, not ") (decimal c.args.words) c.in_ok-put_place.ensures c.in_ok-extend_from_slice.ensures.items c.in_ok-put_number.ensures.ok

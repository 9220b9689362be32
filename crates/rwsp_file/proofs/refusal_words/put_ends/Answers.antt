use Rattle.std.proofs.Common.{codes, decimal, ◌++◌}
use Rattle.rwsp_file.specs.RefusalWords.{place_text}
use Rattle.rwsp_file.proofs.Pieces.{three_pieces}
use Rattle.rwsp_file.proofs.refusal_words.put_ends.Goals as goal

pub returns : goal.returns
returns c = three_pieces c.args.out.now.items _ _ _ (codes "line " ++ decimal c.args.line ++ codes ": the text ends, but ") (place_text c.args.awaited) (codes " was awaited") c.in_ok-put_end_line.ensures c.in_ok-put_place.ensures c.in_ok-extend_from_slice.ensures.items

use Rattle.std.proofs.Common.{codes}
use Rattle.rwsp_file.specs.RefusalWords.{place_text, reason_text}
use Rattle.rwsp_file.proofs.Pieces.{three_pieces}
use Rattle.rwsp_file.proofs.refusal_words.put_awaited.Goals as goal

pub returns : goal.returns
returns c = three_pieces c.args.out.now.items _ _ _ (place_text c.args.awaited) (codes " was awaited") (reason_text c.args.fault) c.in_ok-put_place.ensures c.in_ok-extend_from_slice.ensures.items c.in_ok-put_reason.ensures

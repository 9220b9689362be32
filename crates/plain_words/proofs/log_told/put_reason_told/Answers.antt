use Rattle.std.proofs.Common.{◌∙◌}
use Rattle.plain_words.proofs.Lines.{reason_told}
use Rattle.plain_words.proofs.log_told.put_reason_told.Goals as goal

pub returns : goal.returns
returns c =
    reason_told c.args.problem.now c.args.rosters c.args.log.now c.opening-opening.result.now c.lone_turn-lone.result c.numbers.result.now c.lines-lines.result.now c.args.out.now.items c.put_refuted_told.new.out.items c.put_counts_told.new.out.items
    c.opening-opening.ensures c.lone_turn-lone.ensures.turn (c.numbers.ensures.value ∙ c.named.ensures) c.lines-lines.ensures.value c.in_ok-put_refuted_told.ensures c.in_ok-put_counts_told.ensures

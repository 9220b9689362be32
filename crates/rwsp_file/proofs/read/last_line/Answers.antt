use Rattle.std.proofs.Common.{◌∙◌, ap, sym, ◌+◌, ◌==◌}
use Rattle.std.proofs.lemmas.List.Splits.{length-slice_split}
use Rattle.rwsp_file.proofs.read.last_line.Goals as goal

pub returns : goal.returns
returns c = ap (λ n. n + 1) c.count_line_ends.ensures.count ∙ sym (length-slice_split (λ b. b == 10) c.args.bytes.now)

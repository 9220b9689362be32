use Rattle.std.proofs.Common.{◌≡◌, ◌+◌, drop}
use Rattle.std.specs.List.{prefix_len}
use Rattle.rwsp_text.specs.Places.{is_no_line_end}
use Rattle.rwsp_text.proofs.scan.comment_end.Given as goal

abbrev pub invariant-loop-i : goal.invariant-loop-i
invariant-loop-i l = l.i + prefix_len is_no_line_end (drop l.i l.bytes) ≡ l.at + prefix_len is_no_line_end (drop l.at l.bytes)

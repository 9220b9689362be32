use Rattle.std.proofs.Common.{◌≡◌, map, take}
use Rattle.rwsp_text.specs.declared.scan.Token.{Token}
use Rattle.rwsp_file.proofs.cursor.lines_of.Given as goal

abbrev pub invariant-loop-i : goal.invariant-loop-i
invariant-loop-i l = l.lines.items ≡ map (λ (t : Token). t.line) (take l.i l.tokens)

use Rattle.std.proofs.Common.{◌≡◌, Some}
use Rattle.rwsp_terms.specs.Instance.{Instance}
use Rattle.rwsp_terms.specs.Rules.{rule_of}
use Rattle.refutation_terms.specs.Strip.{strip_line}
use Rattle.rule_reducer.proofs.InPlace.{replaced}
use Rattle.rule_reducer.proofs.stripped_lines.strip_lines.Given as goal

abbrev pub invariant-loop-i : goal.invariant-loop-i
invariant-loop-i l = (P : Instance) → rule_of P l.dropped.number ≡ Some l.dropped.rule → l.lines ≡ replaced (strip_line P l.dropped.number) l.fn.lines l.i

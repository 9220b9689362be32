use Rattle.std.proofs.Common.{arith}
use Rattle.refutation_terms.specs.Strip.{strip_line}
use Rattle.rule_reducer.proofs.InPlace.{replaced_step}
use Rattle.rule_reducer.proofs.stripped_lines.strip_lines.Goals as goal

pub loop-i-preserved : goal.loop-i-preserved
loop-i-preserved c =
    λ P is. replaced_step (strip_line P c.args.dropped.number) c.args.lines.now c.loop-i.lines c.loop-i.i c.index-lines-i.result c.strip_in_place.new.line (omega arith) (c.loop-i.invariant P is) (c.in_ok-strip_in_place.ensures P is)

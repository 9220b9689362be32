use Rattle.std.proofs.Common.{arith}
use Rattle.crew_size.proofs.Cuts.{cut_at_heading, cut_at_end}
use Rattle.crew_size.proofs.section.section_end.Goals as goal

pub returns-then-is_heading_at-clause-end : goal.returns-then-is_heading_at-clause-end
returns-then-is_heading_at-clause-end c = cut_at_heading c.args.bytes.now c.loop-at.at (omega arith) c.loop-at.invariant (rw c.if-is_heading_at.true at c.is_heading_at.ensures)

pub returns-clause-end : goal.returns-clause-end
returns-clause-end c = cut_at_end c.args.bytes.now _ (omega arith) (λ k less here. c.loop-at.invariant k (omega (arith, less)) here)

use Rattle.std.proofs.Common.{ℕ, ◌<◌}
use Rattle.crew_size.specs.Sections.{HasHeadingAt}
use Rattle.crew_size.proofs.section.section_end.Given as goal

abbrev pub invariant-loop-at : goal.invariant-loop-at
invariant-loop-at l = (k : ℕ) → k < l.at → HasHeadingAt l.bytes k → ⊥

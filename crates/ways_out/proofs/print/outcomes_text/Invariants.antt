use Rattle.std.proofs.Common.{◌≡◌}
use Rattle.std.specs.Prelude.{take}
use Rattle.ways_out.specs.Changes.{changes}
use Rattle.ways_out.specs.Texts.{outcomes_text}
use Rattle.ways_out.proofs.print.outcomes_text.Given as goal

abbrev pub invariant-loop-place : goal.invariant-loop-place
invariant-loop-place l = l.out.items ≡ outcomes_text l.problem (take l.place (changes l.problem)) (take l.place l.outcomes)

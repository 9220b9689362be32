use Rattle.std.proofs.Common.{◌≡◌}
use Rattle.std.specs.Prelude.{take}
use Rattle.std.specs.List.{flat_map}
use Rattle.rwsp_terms.specs.Rules.{rules}
use Rattle.ways_out.specs.Changes.{changes_of}
use Rattle.ways_out.proofs.listed.changes_in.Given as goal

abbrev pub invariant-loop-place : goal.invariant-loop-place
invariant-loop-place l = l.all.items ≡ flat_map (changes_of l.problem) (take l.place (rules l.problem))

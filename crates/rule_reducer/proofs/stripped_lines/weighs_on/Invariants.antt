use Rattle.std.proofs.Common.{◌≢◌, take}
use Rattle.std.specs.Prelude.{All}
use Rattle.rwsp_terms.specs.declared.data.Weight.{Weight}
use Rattle.rule_reducer.proofs.stripped_lines.weighs_on.Given as goal

abbrev pub invariant-loop-entry : goal.invariant-loop-entry
invariant-loop-entry l = All (λ (e : Weight). e.day ≢ l.day) (take l.entry-index l.entry-items)

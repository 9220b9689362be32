use Rattle.std.proofs.Common.{take, ◌⊎◌, true, false}
use Rattle.std.specs.Prelude.{◌↔◌}
use Rattle.rwsp_terms.specs.declared.data.Rule.{Rule}
use Rattle.rwsp_terms.specs.Rules.{Names}
use Rattle.rule_reducer.specs.Citing.{OneCites}
use Rattle.rule_reducer.proofs.citations.put_all.Given as goal

abbrev pub invariant-loop-line : goal.invariant-loop-line
invariant-loop-line l = record {
  by_leaves : (r : Rule) → Names l.problem l.plain r ↔ (Names l.problem l.fn.plain r ⊎ OneCites l.problem true (take l.line-index l.lines) r);
  by_lists : (r : Rule) → Names l.problem l.listed r ↔ (Names l.problem l.fn.listed r ⊎ OneCites l.problem false (take l.line-index l.lines) r);
}

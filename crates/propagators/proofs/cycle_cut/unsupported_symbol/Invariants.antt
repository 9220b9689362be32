use Rattle.std.proofs.Common.{◌<◌}
use Rattle.rwsp_terms.specs.declared.data.Symbol.{Symbol}
use Rattle.propagators.specs.CycleCuts.{IsUnsupported}
use Rattle.propagators.proofs.cycle_cut.unsupported_symbol.Given as goal

abbrev pub invariant-loop-number : goal.invariant-loop-number
invariant-loop-number l = (x : Symbol) → x.number < l.number → IsUnsupported l.cycle l.doms l.p x → ⊥

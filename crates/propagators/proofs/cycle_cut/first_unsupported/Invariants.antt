use Rattle.std.proofs.Common.{◌≡◌, ℕ, ◌<◌}
use Rattle.rwsp_terms.specs.declared.data.Symbol.{Symbol}
use Rattle.propagators.specs.CycleCuts.{IsUnsupported}
use Rattle.propagators.proofs.cycle_cut.first_unsupported.Given as goal

abbrev pub invariant-loop-p : goal.invariant-loop-p
invariant-loop-p l = record {
  same : l.cycle ≡ l.fn.cycle;
  none : (q : ℕ) (x : Symbol) → q < l.p → IsUnsupported l.fn.cycle l.doms q x → ⊥;
}

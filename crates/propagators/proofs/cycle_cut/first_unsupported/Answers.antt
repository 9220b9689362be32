-- One position more has no symbol that is cut.
use Rattle.std.proofs.Common.{◌∙◌, subst}
use Rattle.rwsp_terms.specs.declared.data.Symbol.{Symbol}
use Rattle.propagators.specs.Known.{KnownCycle}
use Rattle.propagators.specs.CycleCuts.{IsUnsupported}
use Rattle.propagators.proofs.CutSymbols.{one_position_more}
use Rattle.propagators.proofs.cycle_cut.first_unsupported.Goals as goal

pub loop-p-preserved : goal.loop-p-preserved
loop-p-preserved c =
    let None : KnownCycle → Type 0 = λ C. (x : Symbol) → IsUnsupported C c.args.doms.now c.loop-p.p x → ⊥ in
    record {
      same = c.unsupported_at.ensures.same ∙ c.loop-p.invariant.same;
      none = one_position_more c.args.cycle.now c.args.doms.now c.loop-p.p c.loop-p.invariant.none (subst None c.loop-p.invariant.same c.in_default.ensures.cut);
    }

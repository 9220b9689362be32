-- A symbol that is alone, or isn't there, is not cut; else no word has it.
use Rattle.std.proofs.Common.{◌<◌, ◌∙◌, sym, arith}
use Rattle.rwsp_terms.specs.Instance.{cells}
use Rattle.propagators.proofs.CutSymbols.{cells_of_store, none_beside, unsupported_if}
use Rattle.propagators.proofs.cycle_cut.is_unsupported.Goals as goal

pub returns-then-size-lt2 : goal.returns-then-size-lt2
returns-then-size-lt2 c = (
  λ h. absurd (cc),
  λ u. absurd (none_beside c.args.cycle.now c.args.doms.now c.args.p c.size.result c.args.x c.prove_facts.ensures.tests c.size.ensures.value c.size.ensures.some c.if-size-lt2.true u),
)

pub returns : goal.returns
returns c =
    let C = c.args.cycle.now in
    let S = c.args.doms.now in
    let within : c.args.p < cells C.problem = omega (arith, c.requires.position, c.prove_facts.ensures.now.long, cells_of_store C.problem S c.requires.stands.belongs) in
    unsupported_if C S c.args.p c.size.result c.args.x c.supported.result c.requires.stands c.prove_facts.ensures.tests within c.size.ensures.value c.if-size-lt2.false (sym c.has.ensures ∙ c.if-not-has.false) c.supported.ensures

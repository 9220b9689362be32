-- Two dead turns close; else a symbol that no word has is cut; else there is neither.
use Rattle.std.proofs.Common.{◌≡◌, ◌*◌, refl, subst}
use Rattle.rwsp_terms.specs.Instance.{cells}
use Rattle.refutation_terms.specs.declared.lines.Line.TheVariants.{Closing}
use Rattle.refutation_terms.specs.declared.lines.Leaf.TheVariants.{Words}
use Rattle.refutation_terms.specs.declared.lines.WordClaim.TheVariants.{Dead}
use Rattle.propagators.specs.Known.{KnownCycle}
use Rattle.rwsp_model.specs.Validity.{KeepsLimits}
use Rattle.rwsp_model.proofs.Limits.{some_cells}
use Rattle.propagators.proofs.CycleLooks.{unlike, closed_cycle, none_closes, cut_cycle, none_spent}
use Rattle.propagators.proofs.cycle.seen.Goals as goal

pub returns-then-is_dead : goal.returns-then-is_dead
returns-then-is_dead c =
    let C = c.args.cycle.now in
    let limits : KeepsLimits C.problem = subst KeepsLimits c.problem.ensures c.prove_limits.ensures in
    record {
      look = closed_cycle C c.args.doms.now c.in_ok-dead_leaf.field-0 c.in_ok-dead_leaf.ensures c.requires (some_cells C.problem limits) limits.few_cells (c.is_dead.ensures.0 c.if-is_dead.true);
      same = refl;
    }

pub returns-in_ok-dead_leaf-in-Some : goal.returns-in_ok-dead_leaf-in-Some
returns-in_ok-dead_leaf-in-Some c =
    let C = c.args.cycle.now in
    let limits : KeepsLimits C.problem = subst KeepsLimits c.problem.ensures c.prove_limits.ensures in
    let IsLeaf : KnownCycle → Type 0 = λ K. c.in_ok-dead_leaf-in-Some.field-0 ≡ Closing (Words 0 K.rules (Dead (2 * cells K.problem))) in
    record {
      look = (
        none_closes C c.args.doms.now c.requires (λ dead. unlike c.is_dead.result c.if-is_dead.false (c.is_dead.ensures.1 dead)),
        cut_cycle C c.args.doms.now c.in-Some.p c.in-Some.x c.in_ok-dead_leaf-in-Some.field-0 (subst IsLeaf c.first_unsupported.ensures.same c.in_ok-dead_leaf-in-Some.ensures) c.requires (some_cells C.problem limits) limits.few_cells c.in-Some.ensures.cut,
      );
      same = c.first_unsupported.ensures.same;
    }

pub returns-in-None : goal.returns-in-None
returns-in-None c = record {
  look = (
    none_closes c.args.cycle.now c.args.doms.now c.requires (λ dead. unlike c.is_dead.result c.if-is_dead.false (c.is_dead.ensures.1 dead)),
    none_spent c.args.cycle.now c.args.doms.now c.requires c.in-None.ensures.cut,
  );
  same = c.first_unsupported.ensures.same;
}

use Rattle.std.proofs.Common.{◌≡◌, subst, sym, arith, w32, to_z, of_z}
use Rattle.std.proofs.lemmas.Int.{to_z-of_z, ints}
use Rattle.rwsp_terms.specs.Instance.{symbol_of}
use Rattle.refutation_log.specs.declared.gather.Gathered.TheVariants.{Rising}
use Rattle.refutation_log.specs.Gathering.{IsAdded}
use Rattle.refutation_log.proofs.WeightsRead.{SoFar, so_far_none, so_far_more, so_far_all, so_far_missed, weight_shortens}
use Rattle.refutation_log.proofs.line.weights.Goals as goal

pub loop-fields-init : goal.loop-fields-init
loop-fields-init c =
    let P = c.args.problem.now in
    subst (λ z. SoFar P c.args.fields.now c.args.fields.now (Rising z)) (sym c.new.ensures) (so_far_none P c.args.fields.now)

pub returns-in_default : goal.returns-in_default
returns-in_default c = so_far_missed c.args.problem.now _ c.loop-fields.fields c.loop-fields.state c.loop-fields.invariant c.loop-fields-test.ensures c.in_default.ensures.value

pub loop-fields-smaller : goal.loop-fields-smaller
loop-fields-smaller c = weight_shortens c.args.problem.now _ _ _ c.in-Some.ensures.value

pub loop-fields-preserved : goal.loop-fields-preserved
loop-fields-preserved c =
    let P = c.args.problem.now in
    let v = c.in-Some.value in
    let same : to_z w32 (of_z w32 v) ≡ v = to_z-of_z w32 v (omega (arith, ints, c.in-Some.ensures.range)) in
    so_far_more P c.args.fields.now c.loop-fields.fields c.weight.new.fields _ c.loop-fields.state c.in_ok-state.state c.loop-fields.invariant c.in-Some.ensures.value
    (subst (λ u. IsAdded c.loop-fields.state (symbol_of P c.in-Some.name.now) c.in-Some.day u c.in_ok-state.state) same c.in_ok-state.ensures)

pub returns : goal.returns
returns c = so_far_all c.args.problem.now _ c.loop-fields.fields c.loop-fields.state c.loop-fields.invariant c.loop-fields-test.ensures

use Rattle.std.proofs.Common.{◌≡◌, ◌-◌, ◌<◌, length, refl, arith, ap, subst, ◌∙◌, Some}
use Rattle.std.specs.Prelude.{slice_get}
use Rattle.rule_reducer.proofs.Citing.{cited_on}
use Rattle.rule_reducer.proofs.Descents.{descent_begins, descent_goes_on}
use Rattle.rule_reducer.proofs.descent.descend.Goals as goal

pub loop-done-preserved : goal.loop-done-preserved
loop-done-preserved c =
    let P = c.args.problem.now in
    let g = c.args.log.now in
    let named = c.in_ok-named.named in
    let same : named ≡ g.named = c.in_ok-named.ensures ∙ c.named.ensures in
    let long : length named ≡ length g.named = ap length same in
    let less : c.loop-done.done < length g.named = omega (arith, long) in
    let place : c.len-count.result - 1 - c.loop-done.done ≡ length g.named - 1 - c.loop-done.done = omega (arith, long, c.len-count.ensures) in
    let here : slice_get g.named (length g.named - 1 - c.loop-done.done) ≡ Some c.at-number.result =
    subst (λ l. slice_get l (length g.named - 1 - c.loop-done.done) ≡ Some c.at-number.result) same
    (subst (λ i. slice_get named i ≡ Some c.at-number.result) place c.at-number.ensures) in
    let so_far = c.loop-done.invariant.so_far in
    record {
      so_far = descent_goes_on P g c.loop-done.log c.drop_rule.new.log c.loop-done.done c.at-number.result so_far less here c.in_ok-drop_rule.ensures;
      cited = cited_on P c.at-number.result c.loop-done.log c.drop_rule.new.log _ _ so_far.passes.grounded.fits c.loop-done.invariant.cited c.in_ok-drop_rule.ensures;
    }

pub loop-done-init : goal.loop-done-init
loop-done-init c =
    let g = c.args.log.now in
    record { so_far = descent_begins c.args.problem.now g g refl c.requires.passes; cited = c.requires.cited }

-- The symbol and the other are both there; or no other is.
use Rattle.std.proofs.Common.{◌<◌, ◌≤◌, ◌≡◌, true, sym, ◌∙◌, arith}
use Rattle.rwsp_terms.specs.Instance.{shift_count}
use Rattle.domain_store.specs.Store.{has_domain}
use Rattle.propagators.proofs.CutCounts.{useful, idle_alone}
use Rattle.propagators.proofs.day_cut.neighbour.Goals as goal

pub returns-then-has : goal.returns-then-has
returns-then-has c =
    let P = c.args.problem.now in
    let D = has_domain c.args.doms.now in
    let small : c.loop-number.number ≤ shift_count P = omega arith in
    let there : D c.args.p c.loop-number.number ≡ true = sym c.has-then-number-x.ensures ∙ c.if-has.true in
    let here : D c.args.p c.args.x.number ≡ true = sym c.has.ensures ∙ c.if-not-has.false in
    record {
      symbol = small;
      other = c.if-number-x.true;
      held = there;
      useful = useful P D c.args.p c.args.x.number c.loop-number.number small c.if-number-x.true there here;
    }

pub returns : goal.returns
returns c =
    let P = c.args.problem.now in
    let D = has_domain c.args.doms.now in
    idle_alone P D c.args.p c.args.x.number (sym c.has.ensures ∙ c.if-not-has.false)
    (λ z there.
    let small : z ≤ c.args.doms.now.shifts = (c.prove_facts.ensures.tests.known c.args.p z there).1 in
    let below : z < c.loop-number.number = omega arith in
    c.loop-number.invariant z below there)

-- No number so far is another symbol of the domain.
use Rattle.std.proofs.Common.{◌||◌, ◌==◌, not, sym, ◌∙◌, ◌+◌, ◌<◌, arith}
use Rattle.rwsp_terms.specs.Instance.{shift_count}
use Rattle.rwsp_terms.proofs.Counting.{all_one_more}
use Rattle.domain_store.specs.Store.{has_domain}
use Rattle.domain_store.proofs.day.is_only.Goals as goal
use Rattle.domain_store.proofs.day.is_only.Goals.{else-number-x-via-then-number-x+else-has, else-number-x-via-else-number-x}
use Rattle.refutation_terms.proofs.Alone.{same_passes, absent_passes, not_only}

pub loop-number-preserved : goal.loop-number-preserved
loop-number-preserved c =
    let D = has_domain c.args.doms.now in
    all_one_more (λ z. (z == c.args.x.number) || not (D c.args.p z)) c.loop-number.number c.loop-number.invariant
    (elim c.else-number-x.branch [
      | else-number-x-via-then-number-x+else-has w ↦ absent_passes c.loop-number.number c.args.x.number (D c.args.p c.loop-number.number) (sym w.has.ensures ∙ w.if-has.false)
      | else-number-x-via-else-number-x w ↦ same_passes c.loop-number.number c.args.x.number (D c.args.p c.loop-number.number) w.if-number-x.false
    ])

pub returns-then-has : goal.returns-then-has
returns-then-has c =
    let within : c.loop-number.number < shift_count c.args.problem.now + 1 = omega arith in
    sym (not_only c.args.problem.now (has_domain c.args.doms.now) c.args.p c.args.x.number c.loop-number.number within c.if-number-x.true (sym c.has.ensures ∙ c.if-has.true))

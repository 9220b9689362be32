-- No number so far is another symbol of the set.
use Rattle.std.proofs.Common.{◌||◌, ◌==◌, not, sym, ◌∙◌}
use Rattle.rwsp_terms.proofs.Counting.{all_one_more}
use Rattle.domain_store.specs.Sets.{has_symbol}
use Rattle.propagators.proofs.TallyLemmas.{not_alone}
use Rattle.propagators.proofs.recount.is_alone.Goals as goal
use Rattle.propagators.proofs.recount.is_alone.Goals.{else-z-x-via-then-z-x+else-has, else-z-x-via-else-z-x}
use Rattle.refutation_terms.proofs.Alone.{same_passes, absent_passes}

pub loop-z-preserved : goal.loop-z-preserved
loop-z-preserved c =
    all_one_more (λ z. (z == c.args.x) || not (has_symbol c.args.set.now z)) c.loop-z.z c.loop-z.invariant
    (elim c.else-z-x.branch [
      | else-z-x-via-then-z-x+else-has w ↦ absent_passes c.loop-z.z c.args.x (has_symbol c.args.set.now c.loop-z.z) (sym w.has.ensures ∙ w.if-has.false)
      | else-z-x-via-else-z-x w ↦ same_passes c.loop-z.z c.args.x (has_symbol c.args.set.now c.loop-z.z) w.if-z-x.false
    ])

pub returns-then-has : goal.returns-then-has
returns-then-has c = sym (not_alone c.args.last c.args.x c.loop-z.z c.args.set.now c.loop-z-test.true c.if-z-x.true (sym c.has.ensures ∙ c.if-has.true))

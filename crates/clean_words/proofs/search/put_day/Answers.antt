use Rattle.std.proofs.Common.{◌≡◌, subst, ℤ, arith, w32, to_z, of_z}
use Rattle.std.proofs.lemmas.Int.{ints}
use Rattle.rwsp_terms.specs.Places.{SetsWeight}
use Rattle.clean_words.proofs.Stepping.{day_stepped}
use Rattle.clean_words.proofs.search.put_day.Goals as goal

pub loop-number-preserved : goal.loop-number-preserved
loop-number-preserved c =
    let same : to_z w32 (of_z w32 c.step.result) ≡ c.step.result = omega (arith, ints, c.step.ensures.above, c.step.ensures.below) in
    let Q : ℤ → Type 0 = λ v. SetsWeight c.loop-number.next c.put.new.self c.args.day c.loop-number.number v in
    day_stepped _ _ _ _ _ _ _ _ c.step.result c.loop-number.invariant (subst Q same c.in_ok-put.ensures.sets) c.step.ensures.value

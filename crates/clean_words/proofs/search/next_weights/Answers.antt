use Rattle.std.proofs.Common.{◌≡◌, subst, arith, List}
use Rattle.rwsp_terms.specs.declared.data.Weight.{Weight}
use Rattle.rwsp_terms.specs.Weights.{AreWeights}
use Rattle.clean_words.proofs.Stepping.{days_stepped, days_done}
use Rattle.clean_words.proofs.search.next_weights.Goals as goal

pub loop-i-preserved : goal.loop-i-preserved
loop-i-preserved c = days_stepped _ _ _ _ _ _ c.loop-i.invariant c.in_ok-put_day.ensures

pub returns : goal.returns
returns c =
    let A : List Weight → Type 0 = AreWeights in
    let all : c.loop-i.i ≡ c.args.problem.now.days = omega (arith, c.loop-i.auto.i-end, c.loop-i-test.false, c.days-i-end.ensures.value) in
    days_done _ _ _ _ _ c.loop-i.invariant all (subst A c.entries.ensures.value c.entries.ensures.weights)

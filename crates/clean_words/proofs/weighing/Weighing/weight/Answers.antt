use Rattle.std.proofs.Common.{arith, subst, List}
use Rattle.std.proofs.lemmas.Int.{ints}
use Rattle.rwsp_terms.specs.declared.data.Weight.{Weight}
use Rattle.rwsp_terms.specs.Weights.{AreWeights}
use Rattle.clean_words.proofs.Products.{IsBetween, value_small}
use Rattle.clean_words.proofs.weighing.Weighing.weight.Goals as goal

pub returns-clause-low : goal.returns-clause-low
returns-clause-low c =
    let P : List Weight → Type 0 = AreWeights in
    let small : IsBetween 1000 c.weight_in.result = value_small _ _ _ _ (subst P c.entries.ensures.value c.entries.ensures.weights) c.weight_in.ensures in
    omega (arith, ints, small.0, small.1)

pub returns-clause-high : goal.returns-clause-high
returns-clause-high c =
    let P : List Weight → Type 0 = AreWeights in
    let small : IsBetween 1000 c.weight_in.result = value_small _ _ _ _ (subst P c.entries.ensures.value c.entries.ensures.weights) c.weight_in.ensures in
    omega (arith, ints, small.0, small.1)

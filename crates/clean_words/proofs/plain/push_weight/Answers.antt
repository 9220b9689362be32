use Rattle.std.proofs.Common.{◌≡◌, subst, List, ℤ, arith, w32, to_z, of_z}
use Rattle.std.proofs.lemmas.Int.{ints}
use Rattle.rwsp_terms.specs.declared.data.Weight.{Weight}
use Rattle.rwsp_terms.specs.Weights.{AreWeights}
use Rattle.rwsp_terms.specs.Places.{SetsWeight}
use Rattle.clean_words.proofs.GrowingWeights.{set_last}
use Rattle.clean_words.proofs.plain.push_weight.Goals as goal

pub returns : goal.returns
returns c =
    let P : List Weight → Type 0 = AreWeights in
    let same : to_z w32 (of_z w32 c.args.value) ≡ c.args.value = omega (arith, ints, c.requires.low, c.requires.high) in
    let Q : ℤ → Type 0 = λ v. SetsWeight c.args.weights.now c.put.new.self c.args.day c.args.x.number v in
    set_last _ _ _ (subst P c.entries.ensures.value c.entries.ensures.weights) (c.requires.low, c.requires.high, c.requires.some) c.requires.last (subst Q same c.in_ok-put.ensures.sets)

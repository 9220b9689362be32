use Rattle.std.proofs.Common.{List, subst, rules}
use Rattle.rwsp_terms.specs.declared.data.Weight.{Weight}
use Rattle.rwsp_terms.specs.Weights.{AreWeights}
use Rattle.clean_words.proofs.Products.{weight_small, read_wider}
use Rattle.clean_words.proofs.totals.weight_at.Goals as goal

pub returns : goal.returns
returns c =
    let P : List Weight → Type 0 = AreWeights in
    let wide = read_wider c.at.result c.from.result _ c.from.ensures c.at.ensures (weight_small _ _ _ (subst P c.entries.ensures.value c.entries.ensures.weights)) in
    record { value = search rules; low = wide.0; high = wide.1 }

use Rattle.std.proofs.Common.{◌≡◌, ◌+◌, ◌*◌, List, subst, ◌∙◌, arith, w32, to_z, of_z, pos, slice_index_or}
use Rattle.std.proofs.lemmas.Int.{ints}
use Rattle.rwsp_terms.specs.declared.data.Weight.{Weight}
use Rattle.rwsp_terms.specs.Weights.{AreWeights, weight_at}
use Rattle.clean_words.proofs.Products.{IsBetween, value_small}
use Rattle.clean_words.proofs.WeightRows.{read_weight}
use Rattle.clean_words.proofs.weight_table.weight_in.Goals as goal

pub returns-then-from-lt-MOST_SYMBOLS : goal.returns-then-from-lt-MOST_SYMBOLS
returns-then-from-lt-MOST_SYMBOLS c =
    let is : slice_index_or c.args.table.now (c.args.behind * 9 + c.args.symbol.number) (pos 0) ≡ weight_at c.args.weights.now (c.args.behind + 1) c.args.symbol.number =
    read_weight c.args.weights.now c.args.table.now c.args.days c.args.behind c.args.symbol.number (c.args.behind * 9 + c.args.symbol.number) (pos 0) c.requires.table c.requires.day (omega (arith, c.from.ensures, c.if-from-lt-MOST_SYMBOLS.true)) (omega arith) in
    let P : List Weight → Type 0 = AreWeights in
    let small : IsBetween 1000 (slice_index_or c.args.table.now (c.args.behind * 9 + c.args.symbol.number) (pos 0)) = value_small _ _ _ _ (subst P c.entries.ensures.value c.entries.ensures.weights) is in
    let read : to_z w32 (of_z w32 (slice_index_or c.args.table.now (c.args.behind * 9 + c.args.symbol.number) (pos 0))) ≡ slice_index_or c.args.table.now (c.args.behind * 9 + c.args.symbol.number) (pos 0) = omega (arith, ints, small.0, small.1) in
    read ∙ is

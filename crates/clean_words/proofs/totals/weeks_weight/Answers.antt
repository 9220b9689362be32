use Rattle.std.proofs.Common.{◌≡◌, ◌∙◌, ap, arith, w64, to_z, of_z}
use Rattle.std.specs.Prelude.{◌*ℤ◌}
use Rattle.std.proofs.lemmas.Int.{ints}
use Rattle.clean_words.proofs.Products.{IsBetween, product_small}
use Rattle.clean_words.proofs.totals.weeks_weight.Goals as goal

small : (c : goal.After-from) → IsBetween 4800000 (c.args.weight *ℤ c.args.weeks)
small c = product_small _ _ c.requires.weight.0 c.requires.weight.1 c.requires.weeks.0 c.requires.weeks.1

-- both numbers are read as they are
read : (c : goal.After-from) → to_z w64 (of_z w64 c.args.weight) *ℤ to_z w64 (of_z w64 c.from.result) ≡ c.args.weight *ℤ c.args.weeks
read c =
    let e : to_z w64 (of_z w64 c.args.weight) ≡ c.args.weight = omega (arith, ints, c.requires.weight.0, c.requires.weight.1) in
    let f : to_z w64 (of_z w64 c.from.result) ≡ c.args.weeks = omega (arith, ints, c.requires.weeks.0, c.requires.weeks.1, c.from.ensures) in
    ap (λ z. z *ℤ to_z w64 (of_z w64 c.from.result)) e ∙ ap (λ z. c.args.weight *ℤ z) f

pub overflow_mul-result : goal.overflow_mul-result
overflow_mul-result c = let s = small c in omega (arith, ints, read c, s.0, s.1)

pub returns-clause-value : goal.returns-clause-value
returns-clause-value c = let s = small c in omega (arith, ints, read c, s.0, s.1)

pub returns-clause-above : goal.returns-clause-above
returns-clause-above c = let s = small c in omega (arith, ints, read c, s.0, s.1)

pub returns-clause-below : goal.returns-clause-below
returns-clause-below c = let s = small c in omega (arith, ints, read c, s.0, s.1)

use Rattle.std.proofs.Common.{◌≡◌, ◌∙◌, ap, arith, pos, w64, to_z, of_z}
use Rattle.std.specs.Prelude.{◌*ℤ◌}
use Rattle.std.proofs.lemmas.Int.{ints}
use Rattle.clean_words.proofs.Products.{IsBetween, turns_small}
use Rattle.clean_words.proofs.escapes.times.Goals as goal

small : (c : goal.After-from) → IsBetween 400000000000000 (pos c.args.turns *ℤ c.args.total)
small c = turns_small c.args.turns c.args.total (omega (arith, c.requires.few)) (omega (arith, ints, c.requires.above), omega (arith, ints, c.requires.below))

-- both numbers are read as they are
read : (c : goal.After-from) → to_z w64 (of_z w64 c.from.result) *ℤ to_z w64 (of_z w64 c.args.total) ≡ pos c.args.turns *ℤ c.args.total
read c =
    let e : to_z w64 (of_z w64 c.from.result) ≡ pos c.args.turns = omega (arith, ints, c.from.ensures, c.requires.few) in
    let f : to_z w64 (of_z w64 c.args.total) ≡ c.args.total = omega (arith, ints, c.requires.above, c.requires.below) in
    ap (λ z. z *ℤ to_z w64 (of_z w64 c.args.total)) e ∙ ap (λ z. pos c.args.turns *ℤ z) f

pub overflow_mul-result : goal.overflow_mul-result
overflow_mul-result c = let s = small c in omega (arith, ints, read c, s.0, s.1)

pub returns : goal.returns
returns c = let s = small c in omega (arith, ints, read c, s.0, s.1)

use Rattle.std.proofs.Common.{slice_index, arith}
use Rattle.clean_words.proofs.Images.{image_whole}
use Rattle.clean_words.proofs.image.image_of.Goals as goal

pub returns : goal.returns
returns c =
    let i = c.loop-number.invariant in
    image_whole (slice_index c.args.classes.now) c.args.row.now c.loop-number.image (omega (arith, i.long, c.told-row))
    (λ k lt. i.moves k (omega (arith, lt, i.long, c.told-row)))

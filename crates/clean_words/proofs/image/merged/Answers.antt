use Rattle.std.proofs.Common.{sym, ◌∙◌}
use Rattle.clean_words.proofs.Images.{reader_image, image_by_parts}
use Rattle.clean_words.proofs.image.merged.Goals as goal

pub returns-then-are_kept : goal.returns-then-are_kept
returns-then-are_kept c =
    let e = c.in_ok-small.ensures in
    reader_image c.args.problem.now c.args.rules.now c.args.table c.in_ok-small.small c.args.classes.now c.prove_limits.ensures.some_days c.requires
    (image_by_parts c.args.table c.in_ok-small.small c.args.classes.now e.starts e.long e.states (c.are_kept.ensures c.if-are_kept.true))
    (sym c.class_of.ensures ∙ c.if-class_of-eq0.true)

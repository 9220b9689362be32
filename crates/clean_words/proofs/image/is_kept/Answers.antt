use Rattle.std.proofs.Common.{◌<◌, [], length, arith, rules}
use Rattle.std.proofs.lemmas.List.{get_or_read}
use Rattle.clean_words.proofs.Images.{kept_by}
use Rattle.clean_words.proofs.image.is_kept.Goals as goal

pub returns : goal.returns
returns c = λ e.
    let table = c.args.table.now in
    let small = c.args.small.now in
    let class = c.class_of-class.result in
    let lt : class < length small.moves.items = search rules in
    kept_by table small c.args.classes.now c.args.state class c.index-3.result.now c.index-2.result.now c.index-else-class-len.result.now c.index.result.now c.eq.result
    c.class_of-class.ensures lt
    (get_or_read small.moves.items class c.index-2.result.now lt c.index-2.ensures [])
    (get_or_read table.moves.items c.args.state c.index-3.result.now c.requires.state c.index-3.ensures [])
    (get_or_read small.told.items class c.index.result.now (omega (arith, lt, c.requires.small_long)) c.index.ensures 0)
    (get_or_read table.told.items c.args.state c.index-else-class-len.result.now (omega (arith, c.requires.state, c.requires.long)) c.index-else-class-len.ensures 0)
    c.if-index.false
    (rw (← c.image_of.ensures) c.eq.ensures) e

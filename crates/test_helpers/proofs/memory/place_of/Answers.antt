use Rattle.std.proofs.Common.{◌∙◌, refl, ap, sym}
use Rattle.std.specs.Str.{bytes_eq}
use Rattle.std.proofs.lemmas.Option.{slice_get_read}
use Rattle.test_helpers.proofs.Files.{file_at}
use Rattle.test_helpers.proofs.memory.place_of.Goals as goal

pub returns-then-eq : goal.returns-then-eq
returns-then-eq c =
    let file = c.index-files-i.result in
    let here = slice_get_read c.args.files.now _ c.loop-i.i file refl c.loop-i-test.true c.index-files-i.is in
    (file, here, c.loop-i.invariant ∙ file_at c.args.files.now c.args.name.now c.loop-i.i file here (ap (λ t. bytes_eq t c.args.name.now) (sym c.as_str.ensures.value) ∙ sym c.eq.ensures ∙ c.if-eq.true))

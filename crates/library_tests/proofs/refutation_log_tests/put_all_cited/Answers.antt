-- Each line of the log fits the problem, with what the log's lines may be.
use Rattle.std.proofs.Common.{◌≡◌, ◌<◌, List, length, get_or, refl, ap, subst, arith}
use Rattle.std.proofs.lemmas.Option.{slice_get_read}
use Rattle.refutation_terms.specs.declared.lines.Line.{Line}
use Rattle.library_tests.proofs.refutation_log_tests.put_all_cited.Goals as goal

pub put_cited-requires : goal.put_cited-requires
put_cited-requires c =
    let g = c.args.log.now in
    let line = c.line-item.result in
    let i = c.loop-line.line-index in
    let within : i < length g.lines = omega (arith, ap length c.lines-line-items.ensures.value) in
    let read : line ≡ get_or g.lines i line = subst (λ (ls : List Line). line ≡ get_or ls i line) c.lines-line-items.ensures.value c.line-item.is in
    (g.goal, g.counts, c.requires.lines i line (slice_get_read g.lines (length g.lines) i line refl within read))

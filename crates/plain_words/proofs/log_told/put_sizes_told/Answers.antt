use Rattle.std.proofs.Common.{◌++◌, Option, sym, ap, ◌∙◌, arith}
use Rattle.refutation_terms.specs.Log.{Log}
use Rattle.plain_words.specs.Statements.{told_line, told_lines}
use Rattle.plain_words.specs.LogTold.{size_at, size_in}
use Rattle.plain_words.proofs.Joined.{list_more}
use Rattle.plain_words.proofs.Lines.{read_there}
use Rattle.plain_words.proofs.log_told.put_sizes_told.Goals as goal

pub loop-place-preserved : goal.loop-place-preserved
loop-place-preserved c =
    let P = c.args.problem.now in
    let k = c.loop-place.place in
    let there = read_there c.args.logs.now k c.index-logs-place.result (omega (arith, c.loop-place-test.true, c.requires.within)) c.index-logs-place.is in
    list_more (told_line P) (size_in c.args.low c.args.logs.now) 0 k k c.args.out.now.items c.loop-place.out.items c.put_size_told.new.out.items (omega arith) c.loop-place.invariant
    (c.in_ok-put_size_told.ensures ∙ ap (λ (g : Option Log). c.loop-place.out.items ++ told_lines P (size_at c.args.low k g)) (sym there))

use Rattle.std.proofs.Common.{◌%◌, ap, ◌∙◌, arith}
use Rattle.std.proofs.lemmas.List.{length_push}
use Rattle.clean_words.specs.Monitors.{told_of, size_of}
use Rattle.clean_words.proofs.MonitorTables.{index_more}
use Rattle.clean_words.proofs.monitor_table.told_by.Goals as goal

pub loop-code-preserved : goal.loop-code-preserved
loop-code-preserved c =
    let i = c.loop-code.invariant in
    let m = c.args.monitor in
    rw c.in_ok-push.ensures.items (record {
      long = omega (arith, i.long, length_push c.loop-code.told.items c.told.result);
      each = index_more (λ code. told_of m (code % size_of m)) c.loop-code.told.items c.loop-code.code c.told.result i.long i.each
          (c.told.ensures ∙ ap (λ n. told_of m (c.loop-code.code % n)) c.states.ensures.value);
    })

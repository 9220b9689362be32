use Rattle.std.proofs.Common.{ap, ◌∙◌, arith}
use Rattle.std.proofs.lemmas.List.{length_push}
use Rattle.clean_words.specs.Monitors.{state_on, first_of}
use Rattle.clean_words.proofs.MonitorTables.{index_more}
use Rattle.clean_words.proofs.monitor_table.starts_of.Goals as goal

pub loop-day-preserved : goal.loop-day-preserved
loop-day-preserved c =
    let i = c.loop-day.invariant in
    let m = c.args.monitor in
    rw c.in_ok-push.ensures.items (record {
      long = omega (arith, i.long, length_push c.loop-day.starts.items c.state_on.result);
      each = index_more (λ d. state_on m d (first_of m)) c.loop-day.starts.items c.loop-day.day c.state_on.result i.long i.each
          (c.state_on.ensures.value ∙ ap (state_on m c.loop-day.day) c.first.ensures.value);
    })

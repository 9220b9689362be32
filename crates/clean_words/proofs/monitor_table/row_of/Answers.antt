use Rattle.std.proofs.Common.{◌∙◌, refl, arith}
use Rattle.std.proofs.lemmas.List.{length-set}
use Rattle.clean_words.specs.Monitors.{entry}
use Rattle.clean_words.proofs.MonitorTables.{row_none, row_more}
use Rattle.clean_words.proofs.monitor_table.row_of.Goals as goal

pub loop-number-init : goal.loop-number-init
loop-number-init c = record { long = refl; moves = row_none (entry c.args.monitor c.args.code) 9 }

pub loop-number-preserved : goal.loop-number-preserved
loop-number-preserved c =
    let i = c.loop-number.invariant in
    record {
      long = length-set c.loop-number.row c.loop-number.number c.entry.result ∙ i.long;
      moves = row_more (entry c.args.monitor c.args.code) c.loop-number.row c.loop-number.number c.entry.result (omega (arith, i.long, c.shifts-number-end.ensures.few)) i.moves c.entry.ensures;
    }

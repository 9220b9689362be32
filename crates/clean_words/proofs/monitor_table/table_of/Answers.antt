use Rattle.std.proofs.Common.{arith}
use Rattle.clean_words.proofs.MonitorTables.{table_of_monitor}
use Rattle.clean_words.proofs.monitor_table.table_of.Goals as goal

pub returns : goal.returns
returns c =
    let limits = c.prove_limits.ensures in
    table_of_monitor c.args.problem.now c.args.monitor _ c.requires.0 (omega (arith, limits.few_shifts)) (record {
      days = c.in_ok-starts_of.ensures.long;
      starts = c.in_ok-starts_of.ensures.each;
      long = c.in_ok-moves_of.ensures.long;
      moves = c.in_ok-moves_of.ensures.each;
      told = c.in_ok-told_by.ensures.long;
      tells = c.in_ok-told_by.ensures.each;
    }) c.requires.1 (omega (arith, limits.some_days))

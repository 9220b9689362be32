use Rattle.std.proofs.Common.{◌+◌, None, cond, arith}
use Rattle.std.specs.Prelude.{nat_lt}
use Rattle.std.proofs.lemmas.List.{length_push}
use Rattle.rwsp_terms.specs.Instance.{shift_count}
use Rattle.clean_words.specs.Monitors.{entry}
use Rattle.clean_words.proofs.MonitorTables.{moves_more}
use Rattle.clean_words.proofs.monitor_table.moves_of.Goals as goal

pub loop-code-preserved : goal.loop-code-preserved
loop-code-preserved c =
    let i = c.loop-code.invariant in
    rw c.in_ok-push.ensures.items (record {
      long = omega (arith, i.long, length_push c.loop-code.moves.items c.row_of.result);
      each = moves_more (λ code x. cond (nat_lt x (shift_count c.args.problem.now + 1)) (entry c.args.monitor code x) None) c.loop-code.moves.items c.loop-code.code c.row_of.result i.long i.each c.row_of.ensures;
    })

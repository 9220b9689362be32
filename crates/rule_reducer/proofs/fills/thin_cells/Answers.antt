use Rattle.std.proofs.Common.{arith}
use Rattle.rule_reducer.proofs.Rounds.{cells_lost, loses_on, passes_still}
use Rattle.rule_reducer.proofs.fills.thin_cells.Goals as goal

pub loop-size-preserved : goal.loop-size-preserved
loop-size-preserved c =
    let P = c.args.problem.now in
    let before = c.loop-size.left in
    let after = c.in_ok-left.left in
    record {
      few = omega (arith, c.loop-size.invariant.few);
      passes = passes_still P c.loop-size.size before after c.in_ok-left.ensures;
      kept = loses_on c.args.log before after c.loop-size.invariant.kept (cells_lost P c.loop-size.size before after c.in_ok-left.ensures);
    }

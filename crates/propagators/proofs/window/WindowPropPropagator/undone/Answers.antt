-- All positions were taken over.
use Rattle.std.proofs.Common.{arith}
use Rattle.propagators.proofs.Watching.{same_all_taken}
use Rattle.propagators.proofs.window.WindowPropPropagator.undone.Goals as goal

pub returns-clause-tracks : goal.returns-clause-tracks
returns-clause-tracks c =
    same_all_taken c.loop-p.self.sets c.args.doms.now.sets c.loop-p.invariant.long
    (λ q less. c.loop-p.invariant.done q (omega (arith, less, c.loop-p-test.false, c.cells-p-end.ensures.positions)))

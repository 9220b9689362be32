-- All positions have been taken over.
use Rattle.std.proofs.Common.{arith}
use Rattle.propagators.proofs.TallyLemmas.{all_taken}
use Rattle.propagators.proofs.counts.Counts.undo_to.Goals as goal

pub returns : goal.returns
returns c =
    all_taken c.loop-p.self c.args.doms.now c.loop-p.invariant.shape c.loop-p.invariant.long
    (λ q less. c.loop-p.invariant.done q (omega (arith, less, c.loop-p-test.false, c.cells-p-end.ensures.positions)))

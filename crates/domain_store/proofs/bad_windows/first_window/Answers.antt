-- The positions so far have none, and now one more, or a run of them.
use Rattle.std.proofs.Common.{◌+◌, arith}
use Rattle.domain_store.proofs.Starts.{none_further}
use Rattle.domain_store.proofs.bad_windows.first_window.Goals as goal

pub returns-in-Bad : goal.returns-in-Bad
returns-in-Bad g c = record {
  within = (c.loop-start.invariant.behind, omega arith);
  placed = c.in-Bad.ensures;
  earliest = c.loop-start.invariant.none;
}

pub loop-start-preserved : goal.loop-start-preserved
loop-start-preserved g c =
    let start = c.loop-start.start in
    let clean = c.in-Clean.ensures in
    record {
      behind = omega (arith, c.loop-start.invariant.behind);
      none = none_further (g.V.View.allows c.args.view.now) c.args.pattern c.args.from start (start + c.in-Clean.positions) c.loop-start.invariant.none clean.2;
    }

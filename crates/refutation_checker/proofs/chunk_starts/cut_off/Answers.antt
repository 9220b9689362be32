use Rattle.refutation_checker.proofs.Starts.{cut_here}
use Rattle.refutation_checker.proofs.chunk_starts.cut_off.Goals as goal

pub returns-in-Some : goal.returns-in-Some
returns-in-Some c =
    let behind = rw c.in-Some.is at c.in_ok-walk_behind.ensures.behind in
    cut_here c.args.problem.now c.args.terms.goal c.args.terms.counts c.args.size c.args.start.now c.args.splits.now.items c.walk_behind.new.splits.items c.args.all c.all.inside.walk c.in-Some.walk c.all.inside.bytes.now c.split_at.result.0.now c.split_at.result.1.now c.all.inside.first c.lines_end-end.result c.in-Some.count
    c.all.view_is c.split_at.ensures.front c.split_at.ensures.back c.if-end-bytes.false c.lines_end-end.ensures.within c.lines_end-end.ensures.some c.lines_end-end.ensures.lines c.requires.some c.requires.few
    (rw c.in-Some.is at c.in_ok-walk_behind.ensures.few) (rw c.in-Some.is at c.in_ok-walk_behind.ensures.state) behind.0 behind.1

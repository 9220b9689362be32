use Rattle.std.proofs.Common.{[], ◌∷◌, ◌++◌, ap, ◌∙◌}
use Rattle.refutation_checker.specs.Starts.{Start}
use Rattle.refutation_checker.proofs.Cutting.{cut_more, cut_smaller, next_some}
use Rattle.refutation_checker.proofs.chunk_starts.chunks_of.Goals as goal

pub loop-rest-smaller : goal.loop-rest-smaller
loop-rest-smaller c =
    let P = c.args.problem.now in
    let so = next_some P c.args.terms.goal c.args.terms.counts c.args.size c.args.all c.loop-rest.splits.items c.loop-rest.chunks.items c.loop-rest.rest c.in-Some.lines c.in-Some.is c.loop-rest.invariant in
    cut_smaller P c.args.terms.goal c.args.terms.counts c.args.size c.args.start.now c.loop-rest.splits.items c.cut_off.new.splits.items c.loop-rest.rest c.in-Some.lines c.in_ok-chunk.chunk c.in_ok-chunk.below c.in-Some.is so.next.1 c.in_ok-chunk.ensures

pub loop-rest-preserved : goal.loop-rest-preserved
loop-rest-preserved c =
    let P = c.args.problem.now in
    let chunks = c.loop-rest.chunks.items in
    let so = next_some P c.args.terms.goal c.args.terms.counts c.args.size c.args.all c.loop-rest.splits.items chunks c.loop-rest.rest c.in-Some.lines c.in-Some.is c.loop-rest.invariant in
    cut_more P c.args.terms.goal c.args.terms.counts c.args.size c.args.all c.args.start.now c.loop-rest.splits.items c.cut_off.new.splits.items chunks c.push.new.self.items c.in-Some.lines c.in_ok-chunk.chunk c.in_ok-chunk.below
    c.requires.begun so c.in_ok-chunk.ensures (c.in_ok-push.ensures.items ∙ ap (λ (s : Start). chunks ++ s ∷ []) c.numbered.ensures)

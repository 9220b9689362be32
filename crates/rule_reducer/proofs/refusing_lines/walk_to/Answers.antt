use Rattle.std.proofs.Common.{take, arith}
use Rattle.rule_reducer.proofs.Walking.{not_whole, line_at, line_read, walked_more}
use Rattle.rule_reducer.proofs.refusing_lines.walk_to.Goals as goal

pub go_past-requires-clause-part : goal.go_past-requires-clause-part
go_past-requires-clause-part c =
    not_whole c.args.problem.now c.args.log.now c.loop-i.i c.loop-i.walk c.requires.passes (omega (arith, c.requires.place)) c.loop-i.invariant

pub go_past-requires-clause-holds : goal.go_past-requires-clause-holds
go_past-requires-clause-holds c =
    let g = c.args.log.now in
    let i = c.loop-i.i in
    let line = c.index-lines-i.result in
    let here = line_read g.lines _ i line c.lines-lines.ensures (omega (arith, c.requires.place)) c.index-lines-i.is in (
      g.goal,
      g.counts,
      c.requires.passes.grounded.fits.lines i line here,
      (g.opening, take i g.lines, c.loop-i.invariant, line_at c.args.problem.now g i line here c.requires.passes),
    )

pub loop-i-preserved : goal.loop-i-preserved
loop-i-preserved c =
    let g = c.args.log.now in
    let i = c.loop-i.i in
    let line = c.index-lines-i.result in
    walked_more c.args.problem.now g.opening g.lines i line c.go_past.new.walk (line_read g.lines _ i line c.lines-lines.ensures (omega (arith, c.requires.place)) c.index-lines-i.is)
    (c.in_ok-go_past.ensures c.args.problem.now g.opening (take i g.lines) c.loop-i.invariant)

use Rattle.std.proofs.Common.{arith, refl, true, false}
use Rattle.rule_reducer.proofs.Citing.{cited_more, cited_none, cited_all}
use Rattle.rule_reducer.proofs.Walking.{line_read}
use Rattle.rule_reducer.proofs.citations.put_all.Goals as goal

pub loop-line-init : goal.loop-line-init
loop-line-init c = record {
  by_leaves = cited_none c.args.problem.now true c.args.plain.now c.args.lines.now;
  by_lists = cited_none c.args.problem.now false c.args.listed.now c.args.lines.now;
}

pub put_plain-requires : goal.put_plain-requires
put_plain-requires c = (c.requires.0, c.requires.1, c.requires.2 c.loop-line.line-index _ (line_read c.args.lines.now c.args.lines.now c.loop-line.line-index c.line-item.result refl (omega arith) c.line-item.is))

pub put_listed-requires : goal.put_listed-requires
put_listed-requires c = (c.requires.0, c.requires.1, c.requires.2 c.loop-line.line-index _ (line_read c.args.lines.now c.args.lines.now c.loop-line.line-index c.line-item.result refl (omega arith) c.line-item.is))

pub loop-line-preserved : goal.loop-line-preserved
loop-line-preserved c =
    let P = c.args.problem.now in
    let lines = c.args.lines.now in
    let i = c.loop-line.line-index in
    let line = c.line-item.result in
    let here = line_read lines lines i line refl (omega arith) c.line-item.is in
    record {
      by_leaves = cited_more P true c.args.plain.now c.loop-line.plain c.put_plain.new.rules lines i line here c.loop-line.invariant.by_leaves c.in_ok-put_plain.ensures;
      by_lists = cited_more P false c.args.listed.now c.loop-line.listed c.put_listed.new.rules lines i line here c.loop-line.invariant.by_lists c.in_ok-put_listed.ensures;
    }

pub returns-clause-plain : goal.returns-clause-plain
returns-clause-plain c = cited_all c.args.problem.now true c.args.plain.now c.loop-line.plain c.args.lines.now c.loop-line.line-index (omega arith) c.loop-line.invariant.by_leaves

pub returns-clause-listed : goal.returns-clause-listed
returns-clause-listed c = cited_all c.args.problem.now false c.args.listed.now c.loop-line.listed c.args.lines.now c.loop-line.line-index (omega arith) c.loop-line.invariant.by_lists

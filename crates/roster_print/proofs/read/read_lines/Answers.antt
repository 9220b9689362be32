use Rattle.std.proofs.Common.{rules, ◌≡◌, Err, Bool}
use Rattle.roster_print.specs.Said.{said_of}
use Rattle.roster_print.proofs.Reading.{IsFirst, week_skipped, week_read, week_refused, refused_again}
use Rattle.roster_print.proofs.read.read_lines.Goals as goal
use Rattle.roster_print.proofs.read.read_lines.Goals.{then-branch, else-branch}

pub returns-in_err-read_line-clause-refused : goal.returns-in_err-read_line-clause-refused
returns-in_err-read_line-clause-refused c =
    let says = said_of c.args.problem.now c.args.lets_open in
    let first : IsFirst c.in-Some.text.now c.next.new.self c.loop-text.reader = record { whole = c.in-Some.ensures.line.1; some = c.in-Some.ensures.line.0; ends = c.in-Some.ensures.end } in
    let same : c.from_residual.result ≡ Err c.in_err-read_line.field-0.0 = search rules in
    refused_again Bool c.in_err-read_line.field-0.0 c.from_residual.result _ _ same
    (λ why h. week_refused c.args.problem.now says c.args.bytes.now c.loop-text.reader c.in-Some.text.now c.next.new.self c.loop-text.said.items c.loop-text.weeks c.loop-text.line why c.loop-text.invariant first h.0 h.1)
    c.in_err-read_line.ensures.refused

pub loop-text-preserved : goal.loop-text-preserved
loop-text-preserved c =
    let says = said_of c.args.problem.now c.args.lets_open in
    let first : IsFirst c.in-Some.text.now c.next.new.self c.loop-text.reader = record { whole = c.in-Some.ensures.line.1; some = c.in-Some.ensures.line.0; ends = c.in-Some.ensures.end } in
    let read = c.in_ok-read_line.ensures in
    elim c.if-branch.branch [
      | then-branch w ↦ week_read c.args.problem.now says c.args.bytes.now c.loop-text.reader c.in-Some.text.now c.next.new.self c.loop-text.said.items c.read_line.new.said.items c.loop-text.weeks c.if-branch.weeks c.loop-text.line c.in_ok-read_line.field-0 c.loop-text.invariant first read.week w.if-branch.true read.accepted read.said w.weeks-is
      | else-branch w ↦ week_skipped c.args.problem.now says c.args.bytes.now c.loop-text.reader c.in-Some.text.now c.next.new.self c.loop-text.said.items c.read_line.new.said.items c.loop-text.weeks c.if-branch.weeks c.loop-text.line c.in_ok-read_line.field-0 c.loop-text.invariant first read.week w.if-branch.false read.said w.weeks-is
    ]

use Rattle.std.proofs.Common.{arith, ◌+◌, ◌++◌}
use Rattle.refutation_terms.specs.LogText.{header_text}
use Rattle.refutation_terms.specs.Verdict.{kind_by}
use Rattle.refutation_log.specs.ReadLog.{IsUnread, IsTreeLineRefused}
use Rattle.refutation_log.proofs.LogLines.{lines_more, is_read, tree_read, lines_end, line_unread, fail_along}
use Rattle.refutation_log.proofs.read.read_lines.Goals as goal

pub returns-in_default : goal.returns-in_default
returns-in_default c =
    let h = c.args.header.now in
    lines_end c.args.problem.now h.named h.opening h.goal h.counts _ _ c.loop-count.lines.items c.loop-count.count
    (record { rules = c.requires.named; opening = c.requires.opening; goal_fits = c.requires.goal; may_count = c.requires.counts }) c.loop-count.invariant (omega arith) c.in_default.ensures.line

pub returns-in-Err : goal.returns-in-Err
returns-in-Err c =
    let P = c.args.problem.now in
    let h = c.args.header.now in
    let terms = c.terms-terms.ensures in
    let first = rw (terms.goal, terms.counts) at c.lines_of_header-first.ensures.value in
    fail_along c.in-Err.fail _ _ (IsTreeLineRefused P h.goal h.counts c.in-Some.bytes.now (c.lines_of_header-first.result + 1 + c.len.result)) (IsUnread P (kind_by h.opening h.goal) (header_text P h.named h.opening h.goal h.counts ++ c.args.reader.now))
    (λ why refused. line_unread P h.named h.opening h.goal h.counts _ _ c.in-Some.bytes.now _ c.loop-count.lines.items c.loop-count.count _ why
    (record { rules = c.requires.named; opening = c.requires.opening; goal_fits = c.requires.goal; may_count = c.requires.counts }) c.loop-count.invariant (omega arith) c.in-Some.ensures.line.1 c.in-Some.ensures.end (omega (arith, first)) refused)
    (rw (terms.goal, terms.counts) at c.in-Err.ensures)

pub loop-count-preserved : goal.loop-count-preserved
loop-count-preserved c =
    lines_more c.args.problem.now c.args.header.now.goal c.args.header.now.counts _ _ c.in-Some.bytes.now _ c.loop-count.lines.items _ c.in-Ok.line c.loop-count.count _ c.loop-count.invariant (omega arith) c.in-Some.ensures.line.0 c.in-Some.ensures.line.1 (rw (c.terms-terms.ensures.goal, c.terms-terms.ensures.counts) at c.in-Ok.ensures) c.in-Ok-push_line.ensures c.open_after-count.ensures

pub returns : goal.returns
returns c =
    let h = c.args.header.now in
    record {
      tree = tree_read c.loop-count.lines.items c.loop-count.count c.loop-count.invariant.walk (omega arith);
      read = is_read c.args.problem.now h.named h.opening h.goal h.counts _ _ c.loop-count.lines.items c.loop-count.count (record { rules = c.requires.named; opening = c.requires.opening; goal_fits = c.requires.goal; may_count = c.requires.counts }) c.loop-count.invariant;
      whole = c.loop-count.invariant.text;
      few = omega (arith, c.loop-count.invariant.short, c.requires.few);
    }

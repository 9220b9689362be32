use Rattle.std.proofs.Common.{sym, ◌∙◌}
use Rattle.refutation_terms.specs.Verdict.{RulesCause}
use Rattle.refutation_log.specs.Headers.{StopsFor, StopsAtThird, IsHeaderRefused}
use Rattle.refutation_log.proofs.LogLines.{fail_along}
use Rattle.refutation_log.proofs.HeaderLines.{first_stops, rules_stop, third_stops, header_read}
use Rattle.refutation_log.proofs.header.read_header.Goals as goal

pub returns-in-Err : goal.returns-in-Err
returns-in-Err c = first_stops c.args.problem.now c.args.kind _ _ c.in-Err.why (sym c.new-reader.ensures) c.in-Err.ensures

pub returns-in-Err-rules_line : goal.returns-in-Err-rules_line
returns-in-Err-rules_line c =
    let P = c.args.problem.now in
    let kind = c.args.kind in
    fail_along c.in-Err-rules_line.fail _ _ (StopsFor (RulesCause P) c.version_line.new.reader) (IsHeaderRefused P kind c.args.bytes.now)
    (λ why h. rules_stop P kind c.in-Ok.version _ c.version_line.new.reader why c.in-Ok.ensures.0 (sym c.new-reader.ensures ∙ c.in-Ok.ensures.1) h)
    c.in-Err-rules_line.ensures

pub returns-in-Err-third_line : goal.returns-in-Err-third_line
returns-in-Err-third_line c =
    let P = c.args.problem.now in
    let kind = c.args.kind in
    let v = c.in-Ok.version in
    fail_along c.in-Err-third_line.fail _ _ (StopsAtThird P v c.rules_line.new.reader) (IsHeaderRefused P kind c.args.bytes.now)
    (λ why h. third_stops P kind v c.in-Ok-rules_line.named _ c.version_line.new.reader c.rules_line.new.reader why
    c.in-Ok.ensures.0 (sym c.new-reader.ensures ∙ c.in-Ok.ensures.1) c.in-Ok-rules_line.ensures.0 c.in-Ok-rules_line.ensures.1 h)
    c.in-Err-third_line.ensures

pub returns-in-Ok-third_line : goal.returns-in-Ok-third_line
returns-in-Ok-third_line c =
    rw c.version_counts.ensures
    (header_read c.args.problem.now c.args.kind c.in-Ok.version c.in-Ok-rules_line.named c.in-Ok-third_line.opening c.in-Ok-third_line.goal _ c.version_line.new.reader c.rules_line.new.reader c.third_line.new.reader c.rest.result.now
    c.in-Ok.ensures.0 (sym c.new-reader.ensures ∙ c.in-Ok.ensures.1) c.in-Ok-rules_line.ensures.0 c.in-Ok-rules_line.ensures.1 c.in-Ok-third_line.ensures c.rest.ensures)

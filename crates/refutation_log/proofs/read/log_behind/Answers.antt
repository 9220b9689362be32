use Rattle.std.proofs.Common.{arith, sym, ap, ◌++◌, subst, refl}
use Rattle.refutation_terms.specs.Verdict.{kind_by}
use Rattle.refutation_log.specs.ReadLog.{IsLogUnder, log_under, text_of_header}
use Rattle.refutation_log.proofs.LogLines.{line_extra, log_under_read}
use Rattle.refutation_log.proofs.read.log_behind.Goals as goal

pub returns-in-Some : goal.returns-in-Some
returns-in-Some c =
    let P = c.args.problem.now in
    let h = c.args.header in
    let first = rw (c.terms.ensures.goal, c.terms.ensures.counts) at c.lines_of_header.ensures.value in
    line_extra P (kind_by h.opening h.goal) (log_under h c.in-Ok.lines.items) (text_of_header P h ++ h.body.now) c.new-reader.result c.read_lines.new.reader c.in-Some.field-0.now c.next.new.self _
    refl (ap (λ t. text_of_header P h ++ t) (sym c.new-reader.ensures)) c.in-Ok.ensures c.in-Some.ensures.line.1 c.in-Some.ensures.end (omega (arith, first))

pub returns-in-None : goal.returns-in-None
returns-in-None c =
    let P = c.args.problem.now in
    let h = c.args.header in
    let e = c.new.ensures in
    subst (λ t. IsLogUnder P h t c.new.result) c.new-reader.ensures
    (log_under_read P h c.new.result c.new-reader.result c.read_lines.new.reader c.in-Ok.lines.items c.in-Ok.ensures c.in-None.ensures.line e.named e.opening e.goal e.counts e.lines)

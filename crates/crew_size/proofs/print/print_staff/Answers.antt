use Rattle.std.proofs.Common.{◌≡◌, ℕ, ◌<◌, length, get_or, ap, sym, ◌∙◌, subst, arith}
use Rattle.std.proofs.lemmas.Grind.{common_steps}
use Rattle.refutation_terms.specs.Log.{Fits}
use Rattle.crew_size.specs.Sizes.{with_weeks, IsSize}
use Rattle.crew_size.specs.Texts.{next_size}
use Rattle.crew_size.specs.Fitting.{EndFits}
use Rattle.crew_size.proofs.Fronts.{sections_more}
use Rattle.crew_size.proofs.Printing.{log_read, some_logs, text_whole}
use Rattle.crew_size.proofs.print.print_staff.Goals as goal

pub loop-log-preserved : goal.loop-log-preserved
loop-log-preserved c =
    let lt : c.loop-log.log-index < length c.args.run.now.logs = omega (arith, ap length c.loop-log.invariant.logs) in
    let same : get_or c.args.run.now.logs c.loop-log.log-index c.log-item.result ≡ c.log-item.result = first_of (cc, grind (arith, common_steps)) in
    record {
      logs = c.loop-log.invariant.logs;
      size = omega arith;
      text = sections_more c.args.problem.now c.args.run.now.low c.args.run.now.logs c.loop-log.log-index c.loop-log.weeks c.log-item.result c.loop-log.out.items c.put_section.new.out.items lt same c.loop-log.invariant.size c.loop-log.invariant.text c.in_ok-put_section.ensures;
    }

pub put_section-requires-clause-size : goal.put_section-requires-clause-size
put_section-requires-clause-size c =
    let read = log_read c.args.run.now.logs c.logs-log-items.result.now c.loop-log.log-index c.log-item.result c.loop-log.invariant.logs c.loop-log-test.true c.log-item.is in
    subst (IsSize c.args.problem.now) (sym c.loop-log.invariant.size) (c.requires.sizes c.loop-log.log-index c.log-item.result read)

pub put_section-requires-clause-fits : goal.put_section-requires-clause-fits
put_section-requires-clause-fits c =
    let read = log_read c.args.run.now.logs c.logs-log-items.result.now c.loop-log.log-index c.log-item.result c.loop-log.invariant.logs c.loop-log-test.true c.log-item.is in
    subst (λ (m : ℕ). Fits (with_weeks c.args.problem.now m) c.log-item.result) (sym c.loop-log.invariant.size) (c.requires.logs c.loop-log.log-index c.log-item.result read)

pub overflow_add-weeks : goal.overflow_add-weeks
overflow_add-weeks c =
    let read = log_read c.args.run.now.logs c.logs-log-items.result.now c.loop-log.log-index c.log-item.result c.loop-log.invariant.logs c.loop-log-test.true c.log-item.is in
    let size = c.requires.sizes c.loop-log.log-index c.log-item.result read in
    omega (arith, size.few, c.loop-log.invariant.size)

pub put_end-requires-clause-fits : goal.put_end-requires-clause-fits
put_end-requires-clause-fits c =
    let P = c.args.problem.now in
    let run = c.args.run.now in
    let size : next_size run ≡ c.loop-log.weeks = omega (arith, c.loop-log.invariant.size, c.loop-log-test.false, c.loop-log.auto.log-index-end, ap length c.loop-log.invariant.logs) in
    subst (EndFits P c.loop-log.weeks) (sym c.end.ensures) (subst (λ (m : ℕ). EndFits P m run.end) size c.requires.end)

pub put_end-requires-clause-some : goal.put_end-requires-clause-some
put_end-requires-clause-some c = λ none.
    omega (arith, some_logs c.args.run.now.logs (c.requires.some (sym c.end.ensures ∙ none)), c.loop-log.invariant.size, c.loop-log-test.false, ap length c.loop-log.invariant.logs)

pub returns : goal.returns
returns c =
    let run = c.args.run.now in
    let all : c.loop-log.log-index ≡ length run.logs = omega (arith, c.loop-log-test.false, c.loop-log.auto.log-index-end, ap length c.loop-log.invariant.logs) in
    let size : c.loop-log.weeks ≡ next_size run = omega (arith, c.loop-log.invariant.size, all) in
    text_whole c.args.problem.now run c.loop-log.log-index c.loop-log.weeks c.loop-log.out.items c.put_end.new.out.items c.end.result.now all size c.loop-log.invariant.text c.end.ensures c.in_ok-put_end.ensures

-- By the rule's pattern.
use Rattle.std.proofs.Common.{arith}
use Rattle.domain_store.proofs.Words.{none_bad}
use Rattle.domain_store.proofs.Found.{bad_near}
use Rattle.domain_store.proofs.bad_windows.bad_window_over.Goals as goal

pub returns-in_default : goal.returns-in_default
returns-in_default g c start len early late each =
    none_bad c.args.problem.now c.args.rule (g.V.View.allows c.args.view.now) start len c.prove_some.ensures c.in_default.ensures each

pub returns : goal.returns
returns g c =
    let run = c.days_before-run.ensures in
    bad_near c.args.problem.now c.args.rule (g.V.View.allows c.args.view.now) c.in-Some.pattern c.args.p c.days_before-run.result c.first_window.result
    c.prove_some.ensures c.in-Some.ensures (omega (arith, c.in-Some.ensures.judged.few)) run.few run.ends c.first_window.ensures

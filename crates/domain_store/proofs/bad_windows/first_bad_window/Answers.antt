-- By the rule's pattern.
use Rattle.domain_store.proofs.Words.{none_bad}
use Rattle.domain_store.proofs.Found.{first_bad}
use Rattle.domain_store.proofs.bad_windows.first_bad_window.Goals as goal

pub returns-in_default : goal.returns-in_default
returns-in_default g c q len less each =
    none_bad c.args.problem.now c.args.rule (g.V.View.allows c.args.view.now) q len c.prove_some.ensures c.in_default.ensures each

pub returns : goal.returns
returns g c =
    first_bad c.args.problem.now c.args.rule (g.V.View.allows c.args.view.now) c.in-Some.pattern c.args.end c.first_window.result
    c.prove_some.ensures c.in-Some.ensures c.first_window.ensures

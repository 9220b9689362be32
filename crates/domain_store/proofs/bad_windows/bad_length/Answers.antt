-- By the rule's pattern.
use Rattle.std.proofs.Common.{arith}
use Rattle.domain_store.proofs.Words.{bad_placed, none_bad}
use Rattle.domain_store.proofs.Found.{bad_length_of}
use Rattle.domain_store.proofs.bad_windows.bad_length.Goals as goal

pub returns-in_default : goal.returns-in_default
returns-in_default g c len each =
    none_bad c.args.problem.now c.args.rule (g.V.View.allows c.args.view.now) c.args.p len c.prove_some.ensures c.in_default.ensures each

pub returns-in-Bad : goal.returns-in-Bad
returns-in-Bad g c =
    bad_length_of c.args.problem.now c.args.rule (g.V.View.allows c.args.view.now) _ c.args.p c.in-Bad.length
    c.prove_some.ensures c.in-Some.ensures c.in-Bad.ensures

pub returns-in-Clean : goal.returns-in-Clean
returns-in-Clean g c len each =
    let A = g.V.View.allows c.args.view.now in
    let here = bad_placed c.args.problem.now c.args.rule A _ c.args.p len c.prove_some.ensures c.in-Some.ensures each in
    c.in-Clean.ensures.2 c.args.p here.0 (omega arith) (omega (arith, c.in-Clean.ensures.0)) here.1

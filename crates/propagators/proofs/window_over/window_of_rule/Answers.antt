-- A bad window is a leaf; where there is none, no window over the position holds.
use Rattle.std.proofs.Common.{◌+◌, ◌*◌, ◌<◌, ap, arith}
use Rattle.rwsp_terms.specs.Instance.{cells}
use Rattle.rwsp_terms.specs.declared.limits.TheConstants.{LONGEST_WORD}
use Rattle.domain_store.proofs.Positions.{positions}
use Rattle.propagators.proofs.Over.{leaf_of_window, no_window_over}
use Rattle.propagators.proofs.window_over.window_of_rule.Goals as goal

pub returns-in-Some : goal.returns-in-Some
returns-in-Some c =
    let P = c.args.problem.now in
    let S = c.args.doms.now in
    let long = positions P S c.requires.domains c.prove_facts.ensures.now in
    let some : 0 < cells P = omega arith in
    leaf_of_window P S c.rule_at.result c.args.number (c.args.q + LONGEST_WORD * c.cells-cells.result) c.cells-cells.result c.in-Some.window
    c.rule_at.ensures.value c.requires.number.0 c.requires.number.1 long some c.cells-cells.ensures.value c.in-Some.ensures

pub returns-in-None : goal.returns-in-None
returns-in-None c =
    let P = c.args.problem.now in
    let S = c.args.doms.now in
    let long = positions P S c.requires.domains c.prove_facts.ensures.now in
    let q = c.args.q in
    no_window_over P S c.rule_at.result c.args.number q (q + LONGEST_WORD * c.cells-cells.result) c.rule_at.ensures.value long c.requires.position
    (ap (λ n. q + LONGEST_WORD * n) c.cells-cells.ensures.value) c.in-None.ensures

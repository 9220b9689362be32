use Rattle.std.proofs.Common.{sym, subst}
use Rattle.std.specs.Prelude.{Bool}
use Rattle.refutation_terms.specs.Log.{CountsFit}
use Rattle.roster_search.proofs.Logs.{counts_fit}
use Rattle.roster_planner.proofs.Counting.{plain_fits, plain_closes, plain_proof}
use Rattle.roster_planner.proofs.counted.plain_log.Goals as goal

pub one_leaf_log-requires-clause-counts : goal.one_leaf_log-requires-clause-counts
one_leaf_log-requires-clause-counts c = subst (λ (b : Bool). CountsFit c.args.opening b) (sym c.gives_cells.ensures) (counts_fit c.args.opening)

pub one_leaf_log-requires-clause-leaf : goal.one_leaf_log-requires-clause-leaf
one_leaf_log-requires-clause-leaf c = plain_fits c.args.problem.now c.args.opening c.args.goal c.gives_cells.result c.args.leaf c.requires.leaf

pub returns : goal.returns
returns c =
    let P = c.args.problem.now in
    let o = c.args.opening in
    let leaf = c.args.leaf in
    let made = c.one_leaf_log.ensures in
    plain_proof P o c.args.goal leaf c.one_leaf_log.result c.requires.leaf.1 made.opening made.goal (rw c.gives_cells.ensures at made.counts) made.lines made.cited
    (made.passes (plain_closes P o c.args.goal leaf c.requires.goal c.requires.opening.1 c.requires.leaf))

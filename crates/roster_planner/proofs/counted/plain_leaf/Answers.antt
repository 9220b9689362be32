-- The domains that are looked at are those before the first line.
use Rattle.std.proofs.Common.{[]}
use Rattle.refutation_terms.specs.Word.{AreSame}
use Rattle.refutation_terms.specs.Tree.{opening}
use Rattle.domain_store.specs.Store.{has_domain}
use Rattle.rwsp_model.proofs.Limits.{some_cells}
use Rattle.roster_planner.proofs.Sharpness.{at_first}
use Rattle.roster_planner.proofs.Counting.{leaf_at_start}
use Rattle.roster_planner.proofs.counted.plain_leaf.Goals as goal

pub returns : goal.returns
returns c =
    let P = c.args.problem.now in
    let o = c.args.opening.now in
    let S = c.domains.result.now in
    let same : AreSame P (has_domain S) (opening P o) = at_first P o [] (has_domain S) (c.domains.ensures.has P o [] c.in_ok-walk.ensures.starts) in
    leaf_at_start P S o c.closing_leaf.result (some_cells P c.prove_limits.ensures) same (c.closing_leaf.ensures P S c.in_ok-look.ensures)

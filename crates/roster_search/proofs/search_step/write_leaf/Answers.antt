-- A leaf that was seen.
use Rattle.std.proofs.Common.{length, subst}
use Rattle.std.proofs.lemmas.Result.{IfOk-from_err}
use Rattle.rwsp_model.proofs.Limits.{some_cells}
use Rattle.refutation_terms.specs.Tree.{domains_at}
use Rattle.domain_store.specs.Store.{has_domain}
use Rattle.roster_search.proofs.Reaching.{same_leaf}
use Rattle.roster_search.proofs.Forced.{leaf_under_way, leaf_next}
use Rattle.roster_search.proofs.Reasons.{same_still, searching_on}
use Rattle.roster_search.proofs.search_step.write_leaf.Goals as goal

pub close-requires-clause-leaf : goal.close-requires-clause-leaf
close-requires-clause-leaf g c =
    let P = c.args.problem.now in
    let a = c.args.progress.now in
    let written = c.requires.searching.under_way.written in
    same_leaf P a.aim.opening a.aim.goal (has_domain a.walk.store) (domains_at P a.aim.opening a.lines.items (length a.lines.items)) c.args.line (some_cells P c.prove_limits.ensures) written.goal_fits
    (c.prove_domains.ensures.same P written) c.requires.leaf

pub returns-clause-searching : goal.returns-clause-searching
returns-clause-searching g c =
    let h = c.requires.searching in
    let a = c.args.progress.now in
    let b = c.close.new.self in
    searching_on c.args.problem.now _ _ _ _ _ _ a b h.serves h.plain h.unweighed c.undone.ensures.same c.close.ensures.aim
    (subst (g.A.Propagator.tracks c.undone.new.self) c.domains.ensures.value c.undone.ensures.tracks)
    (leaf_under_way c.args.problem.now a b c.args.line c.in_ok-close.ensures.written c.close.ensures.aim c.in_ok-close.ensures.lines c.requires.room.1)

pub returns-clause-next : goal.returns-clause-next
returns-clause-next g c = leaf_next c.args.problem.now _ _ c.args.progress.now c.close.new.self c.args.line c.requires.leaf.leaf c.close.ensures.aim c.in_ok-close.ensures.lines

pub returns-clause-same : goal.returns-clause-same
returns-clause-same g c = c.undone.ensures.same

pub returns-in_err-close-clause-searching : goal.returns-in_err-close-clause-searching
returns-in_err-close-clause-searching g c = IfOk-from_err _ _ c.from_residual.ensures.0

pub returns-in_err-close-clause-next : goal.returns-in_err-close-clause-next
returns-in_err-close-clause-next g c = IfOk-from_err _ _ c.from_residual.ensures.0

pub returns-in_err-close-clause-same : goal.returns-in_err-close-clause-same
returns-in_err-close-clause-same g c = same_still _ _ _ _

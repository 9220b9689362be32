-- A spent symbol that was seen.
use Rattle.std.proofs.Common.{subst}
use Rattle.std.proofs.lemmas.Result.{IfOk-from_err}
use Rattle.rwsp_model.proofs.Limits.{some_cells}
use Rattle.roster_search.proofs.Reaching.{unweighed_leaf}
use Rattle.roster_search.proofs.Forced.{split_under_way, split_next}
use Rattle.roster_search.proofs.Reasons.{same_still, searching_on}
use Rattle.roster_search.proofs.search_step.write_cut.Goals as goal

pub returns-clause-searching : goal.returns-clause-searching
returns-clause-searching g c =
    let P = c.args.problem.now in
    let h = c.requires.searching in
    let a = c.args.progress.now in
    let b = c.cut.new.self in
    searching_on P _ _ _ _ _ _ a b h.serves h.plain h.unweighed c.narrowed.ensures.same c.cut.ensures.aim
    (subst (g.A.Propagator.tracks c.narrowed.new.self) c.domains.ensures.value c.narrowed.ensures.tracks)
    (split_under_way P a b c.args.p c.args.x c.in_ok-cut.ensures.off c.in_ok-cut.ensures.few)

pub returns-clause-next : goal.returns-clause-next
returns-clause-next g c =
    let P = c.args.problem.now in
    let written = c.requires.searching.under_way.written in
    split_next P _ _ c.args.progress.now c.cut.new.self c.args.p c.args.x (some_cells P c.prove_limits.ensures) written c.in_ok-cut.ensures.off c.prove_domains.ensures.store (c.prove_domains.ensures.same P written)
    c.requires.is_open (λ q z s. c.requires.cut.is_spent)

pub returns-clause-same : goal.returns-clause-same
returns-clause-same g c = c.narrowed.ensures.same

pub returns-in_err-cut-clause-searching : goal.returns-in_err-cut-clause-searching
returns-in_err-cut-clause-searching g c = IfOk-from_err _ _ c.from_residual.ensures.0

pub returns-in_err-cut-clause-next : goal.returns-in_err-cut-clause-next
returns-in_err-cut-clause-next g c = IfOk-from_err _ _ c.from_residual.ensures.0

pub returns-in_err-cut-clause-same : goal.returns-in_err-cut-clause-same
returns-in_err-cut-clause-same g c = same_still _ _ _ _

pub cut-requires-clause-leaf : goal.cut-requires-clause-leaf
cut-requires-clause-leaf g c = unweighed_leaf c.args.problem.now c.args.progress.now.aim.goal _ c.args.line c.requires.cut.leaf c.requires.cut.unweighed

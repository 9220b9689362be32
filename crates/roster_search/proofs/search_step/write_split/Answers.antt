-- A split where nothing was seen.
use Rattle.std.proofs.Common.{length, ap, ◌∙◌, subst, arith}
use Rattle.std.proofs.lemmas.List.{length_push}
use Rattle.std.proofs.lemmas.Result.{IfOk-from_err}
use Rattle.rwsp_model.proofs.Limits.{some_cells}
use Rattle.refutation_terms.specs.declared.lines.Line.TheVariants.{Split}
use Rattle.roster_search.proofs.Forced.{split_under_way, split_next}
use Rattle.roster_search.proofs.Reasons.{same_still, searching_on}
use Rattle.roster_search.proofs.search_step.write_split.Goals as goal

pub returns-clause-searching : goal.returns-clause-searching
returns-clause-searching g c =
    let P = c.args.problem.now in
    let h = c.requires.searching in
    let a = c.args.progress.now in
    let b = c.split.new.self in
    let next = c.args.split in
    let written = h.under_way.written in
    let long = ap length c.in_ok-split.ensures.lines ∙ length_push a.lines.items (Split next.p next.x) in
    searching_on P _ _ _ _ _ _ a b h.serves h.plain h.unweighed c.narrowed.ensures.same c.split.ensures.aim
    (subst (g.A.Propagator.tracks c.narrowed.new.self) c.domains.ensures.value c.narrowed.ensures.tracks)
    (split_under_way P a b next.p next.x (c.in_ok-split.ensures.off P written) (omega (arith, long, c.requires.room.1)))

pub returns-clause-next : goal.returns-clause-next
returns-clause-next g c =
    let P = c.args.problem.now in
    let next = c.args.split in
    let written = c.requires.searching.under_way.written in
    split_next P _ _ c.args.progress.now c.split.new.self next.p next.x (some_cells P c.prove_limits.ensures) written (c.in_ok-split.ensures.off P written) c.prove_domains.ensures.store (c.prove_domains.ensures.same P written)
    c.requires.is_open (λ q z s. absurd (c.requires.unspent q z s))

pub returns-clause-same : goal.returns-clause-same
returns-clause-same g c = c.narrowed.ensures.same

pub returns-in_err-split-clause-searching : goal.returns-in_err-split-clause-searching
returns-in_err-split-clause-searching g c = IfOk-from_err _ _ c.from_residual.ensures.0

pub returns-in_err-split-clause-next : goal.returns-in_err-split-clause-next
returns-in_err-split-clause-next g c = IfOk-from_err _ _ c.from_residual.ensures.0

pub returns-in_err-split-clause-same : goal.returns-in_err-split-clause-same
returns-in_err-split-clause-same g c = same_still _ _ _ _

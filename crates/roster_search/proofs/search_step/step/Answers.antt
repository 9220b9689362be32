-- One step, by what the propagator and the guide see.
use Rattle.std.proofs.Common.{◌≡◌, None}
use Rattle.std.proofs.lemmas.Result.{IfOk-from_err, IfOk-weaker}
use Rattle.roster_search.proofs.Reasons.{same_on, next_by}
use Rattle.roster_search.specs.Written.{IsNextStep}
use Rattle.roster_search.proofs.search_step.step.Goals as goal

pub returns-clause-same : goal.returns-clause-same
returns-clause-same g c = same_on _ _ _ _ _ _ c.see.ensures.same c.write_seen.ensures.same

pub returns-clause-next : goal.returns-clause-next
returns-clause-next g c =
    let P = c.args.problem.now in
    let A = g.A.Propagator in
    let v = c.args.propagator.now in
    let w = c.see.new.propagator in
    let a = c.args.progress.now in
    let b = c.write_seen.new.progress in
    IfOk-weaker c.write_seen.result (λ found. found ≡ None → IsNextStep P (A.leaves w) (A.spent w) a b) (λ found. found ≡ None → IsNextStep P (A.leaves v) (A.spent v) a b)
    (λ found h none. next_by P A.serves A.leaves A.spent v w a b c.see.ensures.same (h none)) c.write_seen.ensures.next

pub returns-in_err-sight-clause-searching : goal.returns-in_err-sight-clause-searching
returns-in_err-sight-clause-searching g c = IfOk-from_err _ _ c.from_residual.ensures.0

pub returns-in_err-sight-clause-next : goal.returns-in_err-sight-clause-next
returns-in_err-sight-clause-next g c = IfOk-from_err _ _ c.from_residual.ensures.0

pub returns-in_err-sight-clause-roster : goal.returns-in_err-sight-clause-roster
returns-in_err-sight-clause-roster g c = IfOk-from_err _ _ c.from_residual.ensures.0

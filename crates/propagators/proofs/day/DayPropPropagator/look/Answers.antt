-- The kept problem is the one that is served.
use Rattle.std.proofs.Common.{◌≡◌, ap, subst}
use Rattle.rwsp_terms.specs.Instance.{Instance}
use Rattle.domain_store.specs.Store.{has_domain}
use Rattle.propagators.specs.Days.{DayWatch, IsDayLeaf, IsDaySpent}
use Rattle.domain_store.specs.Looks.{IsLook}
use Rattle.propagators.proofs.day.DayPropPropagator.look.Goals as goal

pub returns-clause-look : goal.returns-clause-look
returns-clause-look c P serves =
    let S = c.args.doms.now in
    let kept = c.args.self.now.problem in
    let same : c.self.inside.problem.now ≡ c.args.self.now.problem = ap (λ (w : DayWatch). w.problem) c.self.view_is in
    let IsSeen : Instance → Type 0 = λ Q. IsLook Q (IsDayLeaf Q) (IsDaySpent Q (has_domain S)) S c.seen.result in
    let IsSeenFor : Instance → Type 0 = λ Q. IsLook Q (IsDayLeaf kept) (IsDaySpent kept (has_domain S)) S c.seen.result in
    subst IsSeenFor serves (subst IsSeen same c.seen.ensures)

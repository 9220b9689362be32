-- The cycle's problem is the one that is served.
use Rattle.std.proofs.Common.{Result, Ok, Err, subst}
use Rattle.std.specs.Prelude.{IfOk}
use Rattle.rwsp_terms.specs.Instance.{Instance}
use Rattle.domain_store.specs.Store.{has_domain}
use Rattle.domain_store.specs.declared.look.Look.{Look}
use Rattle.domain_store.specs.Looks.{IsLook}
use Rattle.domain_store.specs.Cycles.{IsCycleLeaf, IsCycleSpent}
use Rattle.propagators.specs.Known.{KnownCycle}
use Rattle.propagators.proofs.cycle.CyclePropPropagator.look.Goals as goal

if_ok : {X E : Type 0} (r : Result X E) (A B : X → Type 0) → ((x : X) → A x → B x) → IfOk r A → IfOk r B
if_ok (Ok x) A B more h = more x h
if_ok (Err e) A B more h = tt

pub returns-clause-look : goal.returns-clause-look
returns-clause-look c =
    let S = c.args.doms.now in
    let C = c.args.self.now in
    let IsSeenBy : KnownCycle → Look → Type 0 = λ K look. IsLook K.problem (IsCycleLeaf K.problem) (IsCycleSpent K.problem (has_domain S)) S look in
    let IsSeenFor : Look → Instance → Type 0 = λ look P. IsLook P (IsCycleLeaf C.problem) (IsCycleSpent C.problem (has_domain S)) S look in
    if_ok c.seen.result (IsSeenBy c.self.inside.cycle) _ (λ look h P serves. subst (IsSeenFor look) serves (subst (λ (K : KnownCycle). IsSeenBy K look) c.self.view_is h)) c.seen.ensures.look

-- Where the first doesn't close: what the two see together.
use Rattle.std.proofs.Common.{sym, subst}
use Rattle.std.proofs.lemmas.Result.{IfOk-weaker, IfOk-at_ok}
use Rattle.rwsp_terms.specs.Instance.{Instance}
use Rattle.domain_store.specs.declared.look.Look.{Look}
use Rattle.domain_store.specs.Looks.{IsLook}
use Rattle.domain_store.proofs.Pairs.{seen_by_two}
use Rattle.domain_store.proofs.pair.PairPropagator.look.Goals as goal

pub returns-clause-look : goal.returns-clause-look
returns-clause-look g c =
    let S = c.args.doms.now in
    let w = c.args.self.now.second in
    let Seen : Look → Type 0 = λ look. (P : Instance) → g.B.Propagator.serves w P → IsLook P (g.B.Propagator.leaves w S) (g.B.Propagator.spent w S) S look in
    IfOk-weaker c.joined.result _ _ (λ look both P serves.
    let second = IfOk-at_ok Seen both.1 c.look-2.ensures.look P serves.1 in
    subst (IsLook P _ _ S) (sym both.2) (seen_by_two P _ _ _ _ S c.in_ok-first.first both.0 (c.in_ok-first.ensures.look P serves.0) second)) c.joined.ensures

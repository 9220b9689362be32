-- The domain has this symbol alone where it has no other, since it has one.
use Rattle.std.proofs.Common.{◌≡◌, ℕ, List, [], ◌∷◌, subst}
use Rattle.std.specs.Prelude.{◌↔◌, IsTrue}
use Rattle.std.proofs.lemmas.List.{get_or_read}
use Rattle.domain_store.proofs.StoreLemmas.{store_now, alone_by_test}
use Rattle.domain_store.proofs.domains.Domains.has_only.Goals as goal

pub returns-clause-others : goal.returns-clause-others
returns-clause-others c =
    let position = rw (← c.self.view_is) at c.requires in
    let here = get_or_read _ _ _ position c.index-set.ensures [] in
    let Q : List ℕ → Type 0 = λ set. IsTrue c.is_only.result ↔ (set ≡ c.args.x.number ∷ []) in
    rw (← c.self.view_is) (alone_by_test _ _ _ _ (store_now _ c.self.invariant.store) position (subst Q here c.is_only.ensures))

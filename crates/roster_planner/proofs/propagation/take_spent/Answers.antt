-- A symbol that is spent is beside another in its domain, and without it only that domain is smaller.
use Rattle.std.proofs.Common.{◌≡◌, ℕ, ◌<◌, ◌≤◌, [], length, IsTrue, not, ◌==◌, ◌&&◌, ◌||◌, refl, ap, sym, ◌∙◌, subst}
use Rattle.std.proofs.lemmas.List.{get_or-set_other}
use Rattle.rwsp_terms.specs.declared.data.Symbol.{Symbol}
use Rattle.rwsp_terms.specs.Instance.{Instance}
use Rattle.refutation_terms.specs.declared.lines.Line.{Line}
use Rattle.refutation_terms.proofs.Tests.{right_of}
use Rattle.domain_store.specs.Sets.{without_symbol}
use Rattle.domain_store.specs.Store.{Store, BelongsTo, HasSameShape, changed, domain_at, has_domain, IsStore, HasDomains}
use Rattle.domain_store.specs.Looks.{IsLook, IsNarrowedAt}
use Rattle.domain_store.specs.declared.look.Look.{Look}
use Rattle.domain_store.specs.declared.look.Look.TheVariants.{Cut}
use Rattle.domain_store.proofs.Idle.{positions_of, idle_in_store, held_where_useful, more_where_useful}
use Rattle.roster_planner.proofs.propagation.take_spent.Goals as goal

-- its position is one of the store, whose domain has it and another
taken : (P : Instance) (leaves : Line → Type 0) (spent : ℕ → Symbol → Type 0) (S : Store) (look : Look) (p : ℕ) (x : Symbol) (line : Line) → IsStore S → HasDomains S → BelongsTo P S → look ≡ Cut p x line → IsLook P leaves spent S look → (p < length S.sets) × IsTrue (has_domain S p x.number) × (2 ≤ length (domain_at S p))
taken P leaves spent S look p x line now tests belongs is seen =
    let cut = (subst (IsLook P leaves spent S) is seen).1 in
    let inside : p < length S.sets = subst (λ n. p < n) (sym (positions_of P S now belongs)) cut.position in
    let useful = idle_in_store P (has_domain S) S p x.number now tests belongs inside (λ z. refl) ∙ cut.useful in
    (inside, held_where_useful S p x.number useful, more_where_useful S p x.number useful)

smaller_there : (S T : Store) (p x : ℕ) → HasSameShape S T → T ≡ changed S p (without_symbol x (domain_at S p)) → ((q y : ℕ) → has_domain T q y ≡ ((not (q == p) || not (y == x)) && has_domain S q y)) → IsNarrowedAt S T p
smaller_there S T p x same change has = record {
  shape = same;
  others = λ q other. ap (λ (U : Store). domain_at U q) change ∙ get_or-set_other S.sets p q (without_symbol x (domain_at S p)) [] other;
  fewer = λ y h. right_of (not (p == p) || not (y == x)) (has_domain S p y) (sym (has p y) ∙ h);
}

pub remove-requires-clause-position : goal.remove-requires-clause-position
remove-requires-clause-position g c =
    let P = c.requires.problem.0 in
    (taken P _ _ _ _ _ _ _ c.prove_facts.ensures.now c.prove_facts.ensures.tests c.requires.problem.2 c.in-Cut.is (c.in_ok-look.ensures.look P c.requires.problem.1)).0

pub remove-requires-clause-held : goal.remove-requires-clause-held
remove-requires-clause-held g c =
    let P = c.requires.problem.0 in
    (taken P _ _ _ _ _ _ _ c.prove_facts.ensures.now c.prove_facts.ensures.tests c.requires.problem.2 c.in-Cut.is (c.in_ok-look.ensures.look P c.requires.problem.1)).1

pub remove-requires-clause-another : goal.remove-requires-clause-another
remove-requires-clause-another g c =
    let P = c.requires.problem.0 in
    (taken P _ _ _ _ _ _ _ c.prove_facts.ensures.now c.prove_facts.ensures.tests c.requires.problem.2 c.in-Cut.is (c.in_ok-look.ensures.look P c.requires.problem.1)).2

pub narrowed-requires-clause-tracked : goal.narrowed-requires-clause-tracked
narrowed-requires-clause-tracked g c =
    (c.args.doms.now, (c.look.ensures.tracks c.args.doms.now).0 c.requires.tracked, smaller_there c.args.doms.now _ c.in-Cut.p c.in-Cut.x.number c.remove.ensures.same c.remove.ensures.changed c.remove.ensures.has)

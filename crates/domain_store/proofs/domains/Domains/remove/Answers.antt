-- The rest of the domain is smaller, and what is said of the new store is what is said of a changed one.
use Rattle.std.proofs.Common.{ap, ◌∙◌}
use Rattle.domain_store.specs.Sets.{without_symbol}
use Rattle.domain_store.specs.Store.{changed}
use Rattle.domain_store.proofs.StoreLemmas.{symbol_is_known, smaller_domain, length_smaller, same_shape_changed, has_removed, store_at_changed}
use Rattle.domain_store.proofs.domains.Domains.remove.Goals as goal

pub without-rest-requires : goal.without-rest-requires
without-rest-requires c = symbol_is_known _ _ _ c.prove_facts.ensures.now c.requires.position c.requires.held

pub change-requires-clause-domain : goal.change-requires-clause-domain
change-requires-clause-domain c =
    rw (c.without-rest.ensures, c.set.ensures) (smaller_domain _ _ _ c.prove_facts.ensures.now c.requires.position c.requires.held c.requires.another)

pub change-requires-clause-smaller : goal.change-requires-clause-smaller
change-requires-clause-smaller c =
    rw (c.without-rest.ensures, c.set.ensures) (length_smaller _ _ _ c.prove_facts.ensures.now c.requires.position c.requires.held)

pub returns-clause-changed : goal.returns-clause-changed
returns-clause-changed c =
    let rest = c.without-rest.ensures ∙ ap (without_symbol c.args.x.number) c.set.ensures in
    c.change.ensures ∙ ap (changed c.args.self.now c.args.p) rest

pub returns-clause-same : goal.returns-clause-same
returns-clause-same c = rw c.change.ensures (same_shape_changed _ _ _)

pub returns-clause-has : goal.returns-clause-has
returns-clause-has c q y =
    rw (c.change.ensures, c.without-rest.ensures, c.set.ensures) (has_removed c.args.self.now c.args.p c.args.x.number q y c.requires.position)

pub returns-clause-marks : goal.returns-clause-marks
returns-clause-marks c len h = rw c.change.ensures (store_at_changed _ _ _ len h)

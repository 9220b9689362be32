-- The domain of the one symbol is smaller, and what is said of the new store is what is said of a changed one.
use Rattle.std.proofs.Common.{ap, ◌∙◌}
use Rattle.domain_store.specs.Store.{changed}
use Rattle.domain_store.proofs.StoreLemmas.{symbol_is_known, single_domain, same_shape_changed, has_set_only, store_at_changed}
use Rattle.domain_store.proofs.domains.Domains.set_only.Goals as goal

pub single-requires : goal.single-requires
single-requires c = symbol_is_known _ _ _ c.prove_facts.ensures.now c.requires.position c.requires.held

pub change-requires-clause-domain : goal.change-requires-clause-domain
change-requires-clause-domain c =
    rw c.single.ensures (single_domain _ _ _ c.prove_facts.ensures.now c.requires.position c.requires.held)

pub change-requires-clause-smaller : goal.change-requires-clause-smaller
change-requires-clause-smaller c = rw c.single.ensures c.requires.another

pub returns-clause-changed : goal.returns-clause-changed
returns-clause-changed c = c.change.ensures ∙ ap (changed c.args.self.now c.args.p) c.single.ensures

pub returns-clause-same : goal.returns-clause-same
returns-clause-same c = rw c.change.ensures (same_shape_changed _ _ _)

pub returns-clause-has : goal.returns-clause-has
returns-clause-has c q y = rw (c.change.ensures, c.single.ensures) (has_set_only c.args.self.now c.args.p c.args.x.number q y c.requires.position c.requires.held)

pub returns-clause-marks : goal.returns-clause-marks
returns-clause-marks c len h = rw c.change.ensures (store_at_changed _ _ _ len h)

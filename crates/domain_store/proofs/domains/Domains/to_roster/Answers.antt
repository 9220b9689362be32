-- The symbols that are left make a roster.
use Rattle.std.proofs.Common.{ap, ◌∙◌}
use Rattle.domain_store.proofs.StoreLemmas.{roster_of_decided, roster_has}
use Rattle.domain_store.proofs.domains.Domains.to_roster.Goals as goal

pub only_symbols-requires : goal.only_symbols-requires
only_symbols-requires c = let e = c.deref.ensures.value ∙ ap (λ s. s.sets) c.self.view_is in rw e c.requires.decided

pub of-requires : goal.of-requires
of-requires c =
    roster_of_decided _ _ _ c.prove_facts.ensures.now c.requires.belongs (c.in_ok-cells.ensures ∙ c.deref.ensures.value ∙ ap (λ s. s.sets) c.self.view_is)

pub returns-clause-cells : goal.returns-clause-cells
returns-clause-cells c = rw c.of.ensures.cells (c.in_ok-cells.ensures ∙ c.deref.ensures.value ∙ ap (λ s. s.sets) c.self.view_is)

pub returns-clause-roster : goal.returns-clause-roster
returns-clause-roster c = rw c.of.ensures.cells (roster_of_decided _ _ _ c.prove_facts.ensures.now c.requires.belongs (c.in_ok-cells.ensures ∙ c.deref.ensures.value ∙ ap (λ s. s.sets) c.self.view_is))

pub returns-clause-has : goal.returns-clause-has
returns-clause-has c p d within = roster_has c.args.self.now _ p d (rw c.of.ensures.cells (c.in_ok-cells.ensures ∙ c.deref.ensures.value ∙ ap (λ s. s.sets) c.self.view_is)) within

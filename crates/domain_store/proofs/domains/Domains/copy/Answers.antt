-- The copied fields are the same, and there is room for as many changes as there can be.
use Rattle.std.proofs.Common.{◌≡◌, length, sym, ap, arith, ◌∙◌}
use Rattle.domain_store.proofs.StoreLemmas.{same_store, few_symbols, kept_by_copy}
use Rattle.domain_store.proofs.domains.Domains.copy.Goals as goal

pub overflow_mul-room : goal.overflow_mul-room
overflow_mul-room c =
    let long : c.len.result ≡ length c.self.inside.sets.items = c.len.ensures ∙ sym c.deref.ensures.len ∙ ap length c.deref.ensures.value in
    let few = few_symbols _ _ c.self.invariant.store long in
    omega (arith, few)

pub invariant_of-result : goal.invariant_of-result
invariant_of-result c =
    let long : c.len.result ≡ length c.self.inside.sets.items = c.len.ensures ∙ sym c.deref.ensures.len ∙ ap length c.deref.ensures.value in
    kept_by_copy _ _ _ _ _ _ _ c.self.invariant (c.in_ok-sets.ensures.items ∙ c.deref.ensures.value) (c.in_ok-trail.ensures.items ∙ c.deref-2.ensures.value) long c.in_ok-trail.ensures.room

pub returns : goal.returns
returns c =
    same_store (record { days = c.self.inside.days; weeks = c.self.inside.weeks; shifts = c.self.inside.shifts; sets = c.self.inside.sets.items; trail = c.self.inside.trail.items }) _ _ _ _ (c.in_ok-sets.ensures.items ∙ c.deref.ensures.value) (c.in_ok-trail.ensures.items ∙ c.deref-2.ensures.value)
    ∙ c.self.view_is

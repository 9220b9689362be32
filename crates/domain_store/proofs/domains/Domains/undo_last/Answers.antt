-- The last change was at a position, and its undoing keeps what domains keep.
use Rattle.std.proofs.Common.{◌≤◌, [], length, arith, ◌∙◌, ap}
use Rattle.std.proofs.lemmas.List.{get_or_read}
use Rattle.domain_store.proofs.StoreLemmas.{last_change, kept_by_undo}
use Rattle.domain_store.proofs.domains.Domains.undo_last.Goals as goal

pub index_mut-requires : goal.index_mut-requires
index_mut-requires c =
    let last = last_change _ _ _ _ _ c.self.invariant c.in-Some.ensures.items in
    let place = last.place in
    grind arith

pub overflow_add-self : goal.overflow_add-self
overflow_add-self c =
    let last = last_change _ _ _ _ _ c.self.invariant c.in-Some.ensures.items in
    omega (arith, last.few, c.self.invariant.counted, c.size-size.ensures.few)

pub overflow_sub-self : goal.overflow_sub-self
overflow_sub-self c =
    let last = last_change _ _ _ _ _ c.self.invariant c.in-Some.ensures.items in
    let after = c.replace-after.ensures.value ∙ get_or_read _ _ _ last.place c.index_mut.ensures.value [] in
    omega (arith, last.some, last.before, ap length after, c.self.invariant.counted, c.size-size.ensures.value, c.size.ensures.value)

pub invariant_of-self : goal.invariant_of-self
invariant_of-self c =
    let last = last_change _ _ _ _ _ c.self.invariant c.in-Some.ensures.items in
    let after = c.replace-after.ensures.value ∙ get_or_read _ _ _ last.place c.index_mut.ensures.value [] in
    let wider : c.self.inside.trail.cap ≤ c.pop.new.self.cap = omega (arith, c.pop.ensures.capacity) in
    kept_by_undo _ _ _ _ _ _ _ _ _ _ c.self.invariant c.in-Some.ensures.items after c.replace-after.ensures.after c.size-size.ensures.value c.size.ensures.value wider

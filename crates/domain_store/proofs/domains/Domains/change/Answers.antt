-- A change keeps what domains keep, and there is room for it.
use Rattle.std.proofs.Common.{◌<◌, ◌≤◌, [], length, arith, vec_capacity, ◌∙◌, get_or}
use Rattle.std.proofs.lemmas.List.{get_or_read}
use Rattle.domain_store.proofs.StoreLemmas.{has_room, kept_by_change}
use Rattle.domain_store.proofs.domains.Domains.change.Goals as goal

pub note-requires : goal.note-requires
note-requires c =
    let position = rw (← c.self.view_is) at c.requires.position in
    let smaller = rw (← c.self.view_is) at c.requires.smaller in
    let another : 2 ≤ length (get_or c.self.inside.sets.items c.args.p []) = omega (arith, c.requires.domain.some, smaller) in
    let room : length c.self.inside.trail.items < vec_capacity c.self.inside.trail = has_room _ _ _ c.args.p c.self.invariant position another in
    grind arith

pub invariant_of-self : goal.invariant_of-self
invariant_of-self c =
    let position = rw (← c.self.view_is) at c.requires.position in
    let smaller = rw (← c.self.view_is) at c.requires.smaller in
    let domain = rw (← c.self.view_is) at c.requires.domain in
    let before = c.replace-before.ensures.value ∙ get_or_read _ _ _ position c.index_mut.ensures.value [] in
    kept_by_change _ _ _ _ c.args.set _ _ _ _ _ _ c.self.invariant position domain smaller before c.replace-before.ensures.after c.note.ensures.items c.size-size.ensures.value c.size.ensures.value c.note.ensures.room

use Rattle.std.proofs.Common.{arith, sym, ◌∙◌}
use Rattle.rwsp_terms.proofs.Ascending.{holds_here, lacks_here}
use Rattle.rwsp_terms.proofs.weights.place_of_entry.Goals as goal

pub returns-then-is_at : goal.returns-then-is_at
returns-then-is_at c = holds_here _ _ _ _ _ c.requires (omega arith) c.entries_before-place.ensures.before (sym c.is_at.ensures ∙ c.if-is_at.true)

pub returns-else-is_at : goal.returns-else-is_at
returns-else-is_at c = lacks_here _ _ _ _ _ c.requires (omega arith) c.entries_before-place.ensures.before c.entries_before-place.ensures.next (sym c.is_at.ensures ∙ c.if-is_at.false)

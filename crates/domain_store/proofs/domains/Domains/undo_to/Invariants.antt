use Rattle.std.proofs.Common.{◌≡◌, ◌≤◌, ◌-◌, length}
use Rattle.domain_store.specs.Store.{store_at}
use Rattle.domain_store.proofs.domains.Domains.undo_to.Given as goal

abbrev pub invariant-loop-mark : goal.invariant-loop-mark
invariant-loop-mark l = record {
  within : l.mark.len ≤ length l.self.trail;
  stands : store_at l.self l.mark.len ≡ store_at l.fn.self l.mark.len;
}

abbrev pub decreases-loop-mark : goal.decreases-loop-mark
decreases-loop-mark l = length l.self.trail - l.mark.len

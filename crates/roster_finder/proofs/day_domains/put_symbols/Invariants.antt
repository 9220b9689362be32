use Rattle.std.proofs.Common.{◌≡◌}
use Rattle.roster_finder.proofs.day_domains.put_symbols.Given as goal

abbrev pub invariant-loop-p : goal.invariant-loop-p
invariant-loop-p l = (l.left.rows ≡ l.initial.left.rows) × (l.left.columns ≡ l.initial.left.columns)

abbrev pub invariant-loop-number : goal.invariant-loop-number
invariant-loop-number l = (l.left.rows ≡ l.initial.left.rows) × (l.left.columns ≡ l.initial.left.columns)

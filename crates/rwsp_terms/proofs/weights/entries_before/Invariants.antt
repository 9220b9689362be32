use Rattle.std.proofs.Common.{ℕ, ◌<◌, get_or}
use Rattle.rwsp_terms.specs.Places.{Precedes}
use Rattle.rwsp_terms.specs.declared.data.Weight.{Weight}
use Rattle.rwsp_terms.proofs.weights.entries_before.Given as goal

abbrev pub invariant-loop-i : goal.invariant-loop-i
invariant-loop-i l = (k : ℕ) (d : Weight) → k < l.i → Precedes (get_or l.entries k d) l.day l.x.number

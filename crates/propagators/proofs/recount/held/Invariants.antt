use Rattle.std.proofs.Common.{◌≡◌, ℕ, ◌<◌, false, length, slice_index_or}
use Rattle.rwsp_terms.specs.declared.limits.TheConstants.{MOST_SYMBOLS}
use Rattle.propagators.specs.Tallies.{is_held}
use Rattle.propagators.proofs.recount.held.Given as goal

abbrev pub invariant-loop-x : goal.invariant-loop-x
invariant-loop-x l = record {
  long : length l.flags ≡ MOST_SYMBOLS;
  done : (y : ℕ) → y < l.x → slice_index_or l.flags y false ≡ is_held y l.set;
}

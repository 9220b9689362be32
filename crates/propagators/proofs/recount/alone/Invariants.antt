use Rattle.std.proofs.Common.{◌≡◌, ℕ, ◌<◌, false, length, slice_index_or}
use Rattle.rwsp_terms.specs.declared.limits.TheConstants.{MOST_SYMBOLS}
use Rattle.propagators.specs.Tallies.{is_alone}
use Rattle.propagators.proofs.recount.alone.Given as goal

abbrev pub invariant-loop-x : goal.invariant-loop-x
invariant-loop-x l = record {
  long : length l.flags ≡ MOST_SYMBOLS;
  done : (y : ℕ) → y < l.x → slice_index_or l.flags y false ≡ is_alone l.last y l.set;
}

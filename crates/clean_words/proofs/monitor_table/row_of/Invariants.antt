use Rattle.std.proofs.Common.{◌≡◌, ℕ, length, get_or, None, cond}
use Rattle.std.specs.Prelude.{nat_lt}
use Rattle.rwsp_terms.specs.declared.limits.TheConstants.{MOST_SYMBOLS}
use Rattle.clean_words.specs.Monitors.{entry}
use Rattle.clean_words.proofs.monitor_table.row_of.Given as goal

abbrev pub invariant-loop-number : goal.invariant-loop-number
invariant-loop-number l = record {
  long : length l.row ≡ MOST_SYMBOLS;
  moves : (x : ℕ) → get_or l.row x None ≡ cond (nat_lt x l.number) (entry l.monitor l.code x) None;
}

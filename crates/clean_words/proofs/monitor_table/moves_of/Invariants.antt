use Rattle.std.proofs.Common.{◌≡◌, ℕ, ◌+◌, ◌<◌, length, None, cond}
use Rattle.std.specs.Prelude.{nat_lt}
use Rattle.rwsp_terms.specs.Instance.{shift_count}
use Rattle.clean_words.specs.Moves.{move_at}
use Rattle.clean_words.specs.Monitors.{entry}
use Rattle.clean_words.proofs.monitor_table.moves_of.Given as goal

abbrev pub invariant-loop-code : goal.invariant-loop-code
invariant-loop-code l = record {
  long : length l.moves.items ≡ l.code;
  each : (code x : ℕ) → code < l.code → move_at l.moves.items code x ≡ cond (nat_lt x (shift_count l.problem + 1)) (entry l.monitor code x) None;
}

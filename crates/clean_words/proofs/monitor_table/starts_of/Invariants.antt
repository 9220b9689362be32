use Rattle.std.proofs.Common.{◌≡◌, ℕ, ◌<◌, length, slice_index}
use Rattle.clean_words.specs.Monitors.{state_on, first_of}
use Rattle.clean_words.proofs.monitor_table.starts_of.Given as goal

abbrev pub invariant-loop-day : goal.invariant-loop-day
invariant-loop-day l = record {
  long : length l.starts.items ≡ l.day;
  each : (d : ℕ) → d < l.day → slice_index l.starts.items d ≡ state_on l.monitor d (first_of l.monitor);
}

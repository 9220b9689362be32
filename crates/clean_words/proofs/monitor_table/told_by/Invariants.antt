use Rattle.std.proofs.Common.{◌≡◌, ℕ, ◌%◌, ◌<◌, length, slice_index}
use Rattle.clean_words.specs.Monitors.{told_of, size_of}
use Rattle.clean_words.proofs.monitor_table.told_by.Given as goal

abbrev pub invariant-loop-code : goal.invariant-loop-code
invariant-loop-code l = record {
  long : length l.told.items ≡ l.code;
  each : (code : ℕ) → code < l.code → slice_index l.told.items code ≡ told_of l.monitor (code % size_of l.monitor);
}

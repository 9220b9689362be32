use Rattle.std.proofs.Common.{◌≡◌, ◌+◌, ◌<◌, drop}
use Rattle.clean_words.specs.Monitors.{size_of, first_of, run}
use Rattle.clean_words.proofs.clean.goes_along.Given as goal

abbrev pub invariant-loop-day : goal.invariant-loop-day
invariant-loop-day l = record {
  inside : l.state < size_of l.monitor;
  runs : run l.monitor l.p (first_of l.monitor) l.word ≡ run l.monitor (l.p + l.day) l.state (drop l.day l.word);
}

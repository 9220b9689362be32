use Rattle.std.proofs.Common.{◌≡◌, length}
use Rattle.domain_store.specs.Sets.{has_symbol}
use Rattle.propagators.proofs.Marking.{PassesBelow}
use Rattle.propagators.proofs.marks.Marks.put_behind.Given as goal

abbrev pub invariant-loop-step : goal.invariant-loop-step
invariant-loop-step l = record {
  long : length l.self ≡ length l.fn.self;
  passes : PassesBelow l.way l.steps (has_symbol l.set) l.before l.self l.step-index;
}

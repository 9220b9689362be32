use Rattle.std.proofs.Common.{◌≡◌, ◌+◌, length}
use Rattle.crew_size.proofs.Searches.{AreRefuted, AreCounted}
use Rattle.roster_planner.proofs.staffing.crew_by.Given as goal

abbrev pub invariant-loop-weeks : goal.invariant-loop-weeks
invariant-loop-weeks g l = record {
  size : l.sizes.low + length l.logs.items ≡ l.weeks;
  refuted : AreRefuted l.made.automaton.now.problem l.effort.budget l.sizes.low l.logs.items;
  counted : AreCounted l.made.automaton.now.problem l.effort.counts l.sizes.low l.logs.items;
}

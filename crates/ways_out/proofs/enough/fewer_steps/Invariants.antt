use Rattle.std.proofs.Common.{◌-◌, ◌<◌, ◌≤◌}
use Rattle.rwsp_terms.specs.Roster.{MeetsAll}
use Rattle.ways_out.specs.Loosened.{loosened}
use Rattle.ways_out.proofs.enough.fewer_steps.Given as goal

abbrev pub invariant-loop-few : goal.invariant-loop-few
invariant-loop-few l = record {
  low : l.low ≤ l.few;
  order : l.few < l.enough;
  within : l.enough ≤ l.steps;
  roster : MeetsAll (loosened l.problem l.change l.enough) l.roster.cells;
}

abbrev pub decreases-loop-few : goal.decreases-loop-few
decreases-loop-few l = l.enough - l.few

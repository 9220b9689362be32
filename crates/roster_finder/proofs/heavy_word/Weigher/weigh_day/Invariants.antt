use Rattle.std.proofs.Common.{◌≡◌}
use Rattle.roster_finder.specs.Weighers.{IsWeigherOf}
use Rattle.roster_finder.proofs.heavy_word.Weigher.weigh_day.Given as goal

abbrev pub invariant-loop-number : goal.invariant-loop-number
invariant-loop-number l = (IsWeigherOf l.layer l.self) × (l.self.last_steps.rows ≡ l.fn.self.last_steps.rows)

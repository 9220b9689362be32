use Rattle.std.proofs.Common.{◌≡◌}
use Rattle.roster_finder.specs.Weighers.{IsWeigherOf}
use Rattle.roster_finder.proofs.heavy_word.Weigher.weigh.Given as goal

abbrev pub invariant-loop-day : goal.invariant-loop-day
invariant-loop-day l = (IsWeigherOf l.setting.layer.now l.self) × (l.self.last_steps.rows ≡ l.fn.self.last_steps.rows)

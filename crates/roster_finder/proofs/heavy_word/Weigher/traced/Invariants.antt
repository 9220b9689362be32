use Rattle.std.proofs.Common.{◌≡◌, ◌<◌, length}
use Rattle.roster_finder.proofs.heavy_word.Weigher.traced.Given as goal

abbrev pub invariant-loop-week : goal.invariant-loop-week
invariant-loop-week l = record { node : l.node < l.setting.layer.now.nodes; rows : l.taken.rows ≡ l.weeks; columns : l.taken.columns ≡ l.setting.demand.now.days; below : l.taken.numbers.below ≡ length l.setting.layer.now.steps.items }

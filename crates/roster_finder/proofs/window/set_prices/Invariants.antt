use Rattle.std.proofs.Common.{◌≡◌}
use Rattle.roster_finder.proofs.window.set_prices.Given as goal

abbrev pub invariant-loop-day : goal.invariant-loop-day
invariant-loop-day l = (l.prices.rows ≡ l.initial.prices.rows) × (l.prices.columns ≡ l.initial.prices.columns)

abbrev pub invariant-loop-symbol : goal.invariant-loop-symbol
invariant-loop-symbol l = (l.prices.rows ≡ l.initial.prices.rows) × (l.prices.columns ≡ l.initial.prices.columns)

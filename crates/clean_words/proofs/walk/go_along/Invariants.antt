use Rattle.std.proofs.Common.{◌≡◌, ◌+◌, ◌≤◌, length}
use Rattle.clean_words.specs.Trellis.{trellis, AreRows}
use Rattle.clean_words.specs.Kept.{IsOnBest}
use Rattle.clean_words.proofs.walk.go_along.Given as goal

abbrev pub invariant-loop-next : goal.invariant-loop-next
invariant-loop-next g l = record {
  rows : AreRows (trellis l.words (g.G.Gain.gain_of l.gain)) (length l.walk.symbols.items + length l.rows.items) l.rows.items;
  inside : length l.walk.symbols.items + length l.rows.items ≤ l.words.days;
  walk : IsOnBest (trellis l.words (g.G.Gain.gain_of l.gain)) l.walk.symbols.items l.walk.state;
  day : length l.walk.symbols.items + length l.rows.items ≡ length l.initial.walk.symbols.items + length l.initial.rows.items;
}

abbrev pub decreases-loop-next : goal.decreases-loop-next
decreases-loop-next g l = length l.rows.items

use Rattle.std.proofs.Common.{◌≡◌, ◌+◌, length}
use Rattle.clean_words.specs.Trellis.{trellis}
use Rattle.clean_words.specs.Kept.{AreKept, IsOnBest}
use Rattle.clean_words.proofs.walk.best_word.Given as goal

abbrev pub invariant-loop-row : goal.invariant-loop-row
invariant-loop-row g l = record {
  kept : AreKept (trellis l.words (g.G.Gain.gain_of l.gain)) l.left l.kept.items;
  walk : IsOnBest (trellis l.words (g.G.Gain.gain_of l.gain)) l.walk.symbols.items l.walk.state;
  day : length l.walk.symbols.items + l.left ≡ l.words.days;
}

abbrev pub decreases-loop-row : goal.decreases-loop-row
decreases-loop-row g l = length l.kept.items

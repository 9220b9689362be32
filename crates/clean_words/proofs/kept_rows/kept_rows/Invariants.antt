use Rattle.std.proofs.Common.{◌-◌}
use Rattle.clean_words.specs.Trellis.{trellis, IsRow}
use Rattle.clean_words.specs.Kept.{AreKept}
use Rattle.clean_words.proofs.kept_rows.kept_rows.Given as goal

abbrev pub invariant-loop-left : goal.invariant-loop-left
invariant-loop-left g l = record {
  kept : AreKept (trellis l.words (g.G.Gain.gain_of l.gain)) l.left l.kept.items;
  first : IsRow (trellis l.words (g.G.Gain.gain_of l.gain)) (l.words.days - l.left) l.first;
}

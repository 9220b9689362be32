use Rattle.std.proofs.Common.{◌≡◌, length}
use Rattle.clean_words.specs.Trellis.{trellis, AreRows}
use Rattle.clean_words.proofs.rows.rows_before.Given as goal

abbrev pub invariant-loop-i : goal.invariant-loop-i
invariant-loop-i g l = record {
  long : length l.rows.items ≡ l.i;
  rows : AreRows (trellis l.words (g.G.Gain.gain_of l.gain)) l.last l.rows.items;
}

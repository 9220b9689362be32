use Rattle.std.proofs.Common.{◌≡◌, length}
use Rattle.rwsp_terms.specs.declared.limits.TheConstants.{MOST_SYMBOLS}
use Rattle.clean_words.specs.Joint.{Extends, IsRow}
use Rattle.clean_words.proofs.joint.Joint.row_of.Given as goal

abbrev pub invariant-loop-number : goal.invariant-loop-number
invariant-loop-number l = record {
  grows : Extends l.fn.self.pairs.items l.self.pairs.items;
  moves : l.self.moves.items ≡ l.fn.self.moves.items;
  long : length l.row ≡ MOST_SYMBOLS;
  row : IsRow l.first l.second l.self.pairs.items l.pair l.number l.row;
}

use Rattle.std.proofs.Common.{◌≡◌, length}
use Rattle.clean_words.specs.Tables.{HasStates}
use Rattle.clean_words.proofs.image.quotient.Given as goal

abbrev pub invariant-loop-state : goal.invariant-loop-state
invariant-loop-state l = record {
  long : length l.told.items ≡ length l.moves.items;
  states : HasStates l.classes l.state (length l.moves.items);
}

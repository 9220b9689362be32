use Rattle.std.proofs.Common.{◌≡◌, ◌<◌, length, drop, Some}
use Rattle.clean_words.specs.Moves.{lead}
use Rattle.roster_finder.specs.Led.{lead_from, word_of}
use Rattle.roster_finder.proofs.steady_layer.SteadyLayer.state_behind.Given as goal

abbrev pub invariant-loop-number : goal.invariant-loop-number
invariant-loop-number l = record {
  inside : l.state < length l.self.automaton.moves;
  so_far : lead l.self.automaton.moves (Some l.state) (word_of (drop l.number-index l.word)) ≡ lead_from l.self.automaton l.start l.word;
}

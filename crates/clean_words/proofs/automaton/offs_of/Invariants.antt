use Rattle.std.proofs.Common.{◌≡◌, ◌==◌, map, take}
use Rattle.clean_words.proofs.automaton.offs_of.Given as goal

abbrev pub invariant-loop-label : goal.invariant-loop-label
invariant-loop-label l = l.offs.items ≡ map (λ label. label == 1) (take l.label-index l.told)

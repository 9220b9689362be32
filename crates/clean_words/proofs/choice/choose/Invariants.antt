use Rattle.clean_words.specs.Choices.{IsChosen, choice_by}
use Rattle.clean_words.proofs.choice.choose.Given as goal

abbrev pub invariant-loop-i : goal.invariant-loop-i
invariant-loop-i l = IsChosen (choice_by l.gains l.automaton.moves l.state l.next) l.i l.best

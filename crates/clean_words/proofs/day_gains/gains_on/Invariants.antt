use Rattle.clean_words.specs.Trellis.{trellis}
use Rattle.clean_words.specs.Choices.{AreGains}
use Rattle.clean_words.proofs.day_gains.gains_on.Given as goal

abbrev pub invariant-loop-number : goal.invariant-loop-number
invariant-loop-number g l = AreGains (trellis l.words (g.G.Gain.gain_of l.gain)) l.day l.behind_off l.number l.gains.items

use Rattle.clean_words.specs.Trellis.{trellis}
use Rattle.clean_words.proofs.Made.{IsMade}
use Rattle.clean_words.proofs.rows.row_before.Given as goal

abbrev pub invariant-loop-state : goal.invariant-loop-state
invariant-loop-state g l = IsMade (trellis l.words (g.G.Gain.gain_of l.gain)) l.day l.state l.row.items

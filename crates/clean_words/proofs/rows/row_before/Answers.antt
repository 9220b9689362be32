use Rattle.clean_words.specs.Trellis.{Trellis, trellis}
use Rattle.clean_words.proofs.Steps.{placed}
use Rattle.clean_words.proofs.Made.{made_more}
use Rattle.clean_words.proofs.rows.row_before.Goals as goal

pub loop-state-preserved : goal.loop-state-preserved
loop-state-preserved g c =
    let T : Trellis = trellis c.args.words.now (g.G.Gain.gain_of c.args.gain.now) in
    let facts = c.prove_facts.ensures in
    let place = placed T c.args.day c.loop-state.state c.in_ok-gains.gains c.behind-behind.result.now c.args.next.now c.is_off.result (record { automaton = facts.automaton; symbols = facts.symbols }) c.requires.day c.in_ok-gains.ensures c.is_off.ensures c.behind-behind.ensures c.requires.next in
    rw c.in_ok-push.ensures.items (made_more T c.args.day c.loop-state.state _ _ _ _ _ c.loop-state.invariant place c.choose-choice.ensures c.weight_of.ensures)

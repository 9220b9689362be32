use Rattle.std.proofs.Common.{◌≡◌, length, map, ap, slice_index, arith, rules, sym, ◌∙◌}
use Rattle.std.proofs.lemmas.List.{length_push}
use Rattle.clean_words.proofs.Images.{states_more, states_same}
use Rattle.clean_words.proofs.image.quotient.Goals as goal
use Rattle.clean_words.proofs.image.quotient.Goals.{then-class_of-len+in_ok-push+in_ok-push-2, else-class_of-len}

pub loop-state-preserved : goal.loop-state-preserved
loop-state-preserved c =
    let i = c.loop-state.invariant in
    elim c.if-class_of-len.branch [
      | then-class_of-len+in_ok-push+in_ok-push-2 w ↦
          let len : c.len.result ≡ length c.loop-state.moves.items = search rules in
          let new = sym c.class_of.ensures ∙ w.if-class_of-len.true ∙ len in
          let states = states_more c.args.classes.now c.loop-state.state (length c.loop-state.moves.items) new i.states in
          rw (w.moves-is, w.told-is, w.in_ok-push.ensures.items, w.in_ok-push-2.ensures.items, length_push c.loop-state.moves.items, length_push c.loop-state.told.items) (record {
            long = omega (arith, i.long);
            states = states;
          })
      | else-class_of-len w ↦
          rw (w.moves-is, w.told-is) (record {
            long = i.long;
            states = states_same c.args.classes.now c.loop-state.state (length c.loop-state.moves.items) i.states;
          })
    ]

pub returns-clause-states : goal.returns-clause-states
returns-clause-states c = λ k lt.
    let s = c.loop-state.invariant.states k lt in
    (s.0, omega (arith, s.1, c.loop-state.auto.state-end, c.len-state-end.ensures, c.args.table.now.moves.ok.0), s.2)

pub returns-clause-starts : goal.returns-clause-starts
returns-clause-starts c = c.in_ok-starts.ensures ∙ ap (map (slice_index c.args.classes.now)) c.deref.ensures.value

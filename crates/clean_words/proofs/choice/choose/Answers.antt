use Rattle.std.proofs.Common.{◌≡◌, ap, sym, ◌∙◌, None}
use Rattle.std.proofs.lemmas.List.{get_or_default}
use Rattle.clean_words.specs.Moves.{move_at}
use Rattle.clean_words.specs.Choices.{choice_by, choice_with}
use Rattle.clean_words.proofs.Chosen.{chosen_none, chosen_more}
use Rattle.clean_words.proofs.choice.choose.Goals as goal

pub loop-i-init : goal.loop-i-init
loop-i-init c = chosen_none _

pub loop-i-preserved : goal.loop-i-preserved
loop-i-preserved c =
    let gains = c.args.gains.now in
    let moves = c.args.automaton.now.moves in
    let offered : choice_by gains moves c.args.state c.args.next.now c.loop-i.i ≡ c.choice_by-choice.result =
    sym (c.choice_by-choice.ensures ∙ ap (λ g. choice_with c.loop-i.i g (move_at moves c.args.state c.loop-i.i) c.args.next.now) (get_or_default gains c.loop-i.i _ None c.loop-i-test.true)) in
    rw c.preferred-best.ensures (chosen_more _ _ _ _ c.loop-i.invariant offered)

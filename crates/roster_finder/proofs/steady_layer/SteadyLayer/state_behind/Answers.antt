use Rattle.std.proofs.Common.{refl, sym, arith, ◌∙◌}
use Rattle.roster_finder.proofs.Leading.{leads_nowhere}
use Rattle.roster_finder.proofs.steady_layer.SteadyLayer.state_behind.Goals as goal

pub returns-in_err-state-clause-value : goal.returns-in_err-state-clause-value
returns-in_err-state-clause-value c =
    c.from_residual.ensures
    ∙ sym (leads_nowhere c.args.self.now.automaton.moves c.args.word.now c.loop-number.number-index c.loop-number.state _ 0 _ _ (omega (arith, c.loop-number-test.true)) refl c.in_err-state.ensures refl c.loop-number.invariant.so_far)

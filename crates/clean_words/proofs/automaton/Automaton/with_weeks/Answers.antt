use Rattle.std.proofs.Common.{◌∙◌}
use Rattle.clean_words.proofs.OtherWeeks.{automaton_like}
use Rattle.clean_words.proofs.automaton.Automaton.with_weeks.Goals as goal

pub invariant_of-result : goal.invariant_of-result
invariant_of-result c =
    automaton_like c.self.inside.problem _ c.args.weeks c.self.inside.list _ c.self.inside.starts.items _ c.self.inside.moves.items _ c.self.inside.offs.items _ c.self.inside.steps.items _
    c.in_ok-with_weeks.ensures c.in_ok-copy.ensures (c.in_ok-from_slice.ensures.items ∙ c.deref.ensures.value) (c.in_ok-from_slice-2.ensures.items ∙ c.deref-2.ensures.value) (c.in_ok-from_slice-3.ensures.items ∙ c.deref-3.ensures.value) (c.in_ok-from_slice-4.ensures.items ∙ c.deref-4.ensures.value)
    c.self.invariant

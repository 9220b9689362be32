use Rattle.clean_words.proofs.Readers.{automaton_by}
use Rattle.clean_words.proofs.automaton.Automaton.of.Goals as goal

pub invariant_of-result : goal.invariant_of-result
invariant_of-result c =
    automaton_by c.args.problem.now _ c.args.rules.now _ c.in_ok-table.table c.deref-2.result.now c.deref.result.now c.in_ok-offs.offs.items c.in_ok-steps.steps.items
    c.in_ok-problem.ensures c.in_ok-list.ensures c.in_ok-table.ensures c.deref-2.ensures.value c.in_ok-offs.ensures c.deref.ensures.value c.in_ok-steps.ensures.ordered c.in_ok-steps.ensures.all

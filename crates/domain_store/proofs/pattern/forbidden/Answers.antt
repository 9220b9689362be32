use Rattle.domain_store.proofs.Shapes.{pattern_of_rule}
use Rattle.domain_store.proofs.pattern.forbidden.Goals as goal

pub returns : goal.returns
returns c = pattern_of_rule c.args.problem.now c.args.place _ _ _ c.sequence.ensures.value c.days.ensures.value c.symbols_in_a_row.ensures

use Rattle.domain_store.proofs.Shapes.{pattern_of_sequence}
use Rattle.domain_store.proofs.pattern.symbols_in_a_row.Goals as goal

pub returns : goal.returns
returns c = pattern_of_sequence c.args.week c.args.sequence _ c.last_side.ensures c.requires

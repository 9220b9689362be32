use Rattle.std.proofs.Common.{sym}
use Rattle.refutation_log.proofs.HeaderTexts.{turn_found, turn_missed, turn_no_feed}
use Rattle.refutation_log.proofs.header.read_turn.Goals as goal

pub returns-in_default : goal.returns-in_default
returns-in_default c = turn_no_feed c.args.problem.now _ c.in_default.ensures

pub returns-in_default-turn_parts : goal.returns-in_default-turn_parts
returns-in_default-turn_parts c = turn_missed c.args.problem.now _ c.in-Some.body.now c.prove_limits.ensures c.in-Some.ensures c.in_default-turn_parts.ensures

pub returns-in-None : goal.returns-in-None
returns-in-None c = (c.in-Some-turn_parts.name.now, c.in-Some-turn_parts.day, turn_found c.args.problem.now _ c.in-Some.body.now _ _ c.in-Some.ensures c.in-Some-turn_parts.ensures, sym c.in-None.ensures)

pub returns-in-Some-symbol : goal.returns-in-Some-symbol
returns-in-Some-symbol c = (c.in-Some-turn_parts.name.now, turn_found c.args.problem.now _ c.in-Some.body.now _ _ c.in-Some.ensures c.in-Some-turn_parts.ensures, sym c.in-Some-symbol.ensures)

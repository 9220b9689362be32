use Rattle.std.proofs.Common.{sym, ◌∙◌}
use Rattle.roster_print.specs.Said.{said_of}
use Rattle.roster_print.proofs.Spelling.{read_is_spelled, count_is_refused}
use Rattle.roster_print.proofs.read.read_weeks.Goals as goal

pub returns-then-weeks-clause-refused : goal.returns-then-weeks-clause-refused
returns-then-weeks-clause-refused c = count_is_refused c.args.problem.now (said_of c.args.problem.now c.args.lets_open) c.args.bytes.now c.in_ok-said.weeks c.in_ok-said.ensures.accepted c.in_ok-said.ensures.count (λ same. c.if-weeks.true (same ∙ sym c.weeks.ensures.value))

pub returns-clause-spelled : goal.returns-clause-spelled
returns-clause-spelled c = read_is_spelled c.args.problem.now (said_of c.args.problem.now c.args.lets_open) c.args.bytes.now c.in_ok-said.said.items c.in_ok-said.ensures.said (sym c.in_ok-said.ensures.count ∙ c.if-weeks.false ∙ c.weeks.ensures.value) c.in_ok-said.ensures.accepted

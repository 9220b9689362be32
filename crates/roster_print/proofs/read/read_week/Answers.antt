use Rattle.std.proofs.Common.{sym, ◌∙◌}
use Rattle.roster_print.specs.Said.{said_of}
use Rattle.roster_print.proofs.Reading.{week_wide, week_accepted}
use Rattle.roster_print.proofs.read.read_week.Goals as goal

pub returns-then-words-days-clause-refused : goal.returns-then-words-days-clause-refused
returns-then-words-days-clause-refused c = week_wide c.args.problem.now (said_of c.args.problem.now c.args.lets_open) c.args.line c.args.text.now c.args.words.now c.args.said.now.items c.read_words.new.said.items c.in_ok-read_words.ensures.said (λ same. c.if-words-days.true (same ∙ sym c.days.ensures.value))

pub returns-clause-accepted : goal.returns-clause-accepted
returns-clause-accepted c = week_accepted c.args.problem.now (said_of c.args.problem.now c.args.lets_open) c.args.line c.args.text.now c.args.words.now c.args.said.now.items c.read_words.new.said.items c.in_ok-read_words.ensures.said (c.if-words-days.false ∙ c.days.ensures.value)

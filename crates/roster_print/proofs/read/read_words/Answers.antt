use Rattle.std.proofs.Common.{sym}
use Rattle.roster_print.specs.Said.{said_of}
use Rattle.roster_print.proofs.Reading.{name_read, names_done, unknown_there}
use Rattle.roster_print.proofs.read.read_words.Goals as goal

pub returns-in_default-clause-unknown : goal.returns-in_default-clause-unknown
returns-in_default-clause-unknown c = unknown_there (said_of c.args.problem.now c.args.lets_open) c.args.text.now c.args.words.now c.loop-word.word-index _ c.loop-word-test.true (sym c.in_default.ensures)

pub loop-word-preserved : goal.loop-word-preserved
loop-word-preserved c = name_read (said_of c.args.problem.now c.args.lets_open) c.args.text.now c.args.words.now c.loop-word.word-index _ c.in-Some.cell c.args.said.now.items c.loop-word.said.items c.push.new.self.items c.loop-word-test.true c.loop-word.invariant (sym c.in-Some.ensures) c.in_ok-push.ensures.items

pub returns-clause-said : goal.returns-clause-said
returns-clause-said c = names_done (said_of c.args.problem.now c.args.lets_open) c.args.text.now c.args.words.now c.loop-word.word-index c.args.said.now.items c.loop-word.said.items c.loop-word-test.false c.loop-word.invariant

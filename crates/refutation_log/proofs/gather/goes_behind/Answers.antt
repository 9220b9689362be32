use Rattle.refutation_log.specs.Gathering.{entry_of}
use Rattle.refutation_log.proofs.Behind.{one_behind}
use Rattle.refutation_log.proofs.gather.goes_behind.Goals as goal

pub returns-in-Some : goal.returns-in-Some
returns-in-Some c = λ v. one_behind c.args.entries.now c.in-Some.entry.now (entry_of c.args.day c.args.x v) c.precedes.result c.requires c.in-Some.ensures.item.0 c.in-Some.ensures.item.1 c.precedes.ensures

use Rattle.std.proofs.Common.{refl}
use Rattle.refutation_log.proofs.HeaderTexts.{cells_no_feed, cells_answered}
use Rattle.refutation_log.proofs.cells_line.read_given.Goals as goal

pub returns-in-None : goal.returns-in-None
returns-in-None c = cells_no_feed c.args.problem.now _ c.in-None.ensures

pub returns-in-Some : goal.returns-in-Some
returns-in-Some c =
    cells_answered c.args.problem.now c.args.bytes.now c.in-Some.body.now _ c.given_of.result c.prove_limits.ensures c.in-Some.ensures refl c.given_of.ensures

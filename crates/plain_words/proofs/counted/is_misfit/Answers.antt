use Rattle.plain_words.proofs.Misfits.{test_is_leaf}
use Rattle.plain_words.proofs.counted.is_misfit.Goals as goal

pub returns : goal.returns
returns c = test_is_leaf c.args.problem.now c.args.x c.blocks_holds.result c.blocks_holds.ensures

use Rattle.std.proofs.Common.{arith}
use Rattle.clean_words.proofs.words.CleanWords.place.Goals as goal

pub overflow_add-result : goal.overflow_add-result
overflow_add-result c = omega (arith, c.args.self.now.starts, c.args.self.now.few, c.prove_facts.ensures.few_cells, c.requires)

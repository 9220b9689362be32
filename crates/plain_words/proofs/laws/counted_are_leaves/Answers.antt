use Rattle.plain_words.proofs.Sentences.{counted_are_leaves}
use Rattle.plain_words.proofs.laws.counted_are_leaves.Goals as goal

pub returns : goal.returns
returns c = counted_are_leaves

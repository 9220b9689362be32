use Rattle.plain_words.proofs.SaidLaws.{counted_are_leaves_of}
use Rattle.plain_words.proofs.laws.counted_are_leaves_of.Goals as goal

pub returns : goal.returns
returns c = counted_are_leaves_of

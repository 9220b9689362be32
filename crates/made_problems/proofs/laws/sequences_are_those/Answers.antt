use Rattle.made_problems.proofs.Sequences.{sequences_are_those}
use Rattle.made_problems.proofs.laws.sequences_are_those.Goals as goal

pub returns : goal.returns
returns c = sequences_are_those

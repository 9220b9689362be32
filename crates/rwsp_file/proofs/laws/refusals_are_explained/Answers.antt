use Rattle.rwsp_file.proofs.Explained.{refusals_are_explained}
use Rattle.rwsp_file.proofs.laws.refusals_are_explained.Goals as goal

pub returns : goal.returns
returns c = refusals_are_explained

use Rattle.crew_size.proofs.LogCuts.{logs_are_cut_whole}
use Rattle.crew_size.proofs.laws.logs_are_cut_whole.Goals as goal

pub returns : goal.returns
returns c = logs_are_cut_whole

use Rattle.ways_out.proofs.Agreeing.{ways_agree}
use Rattle.ways_out.proofs.laws.ways_agree.Goals as goal

pub returns : goal.returns
returns c = ways_agree

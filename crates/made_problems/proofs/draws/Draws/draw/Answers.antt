use Rattle.made_problems.proofs.Stepping.{stepped, halved}
use Rattle.made_problems.proofs.draws.Draws.draw.Goals as goal

pub returns-clause-value : goal.returns-clause-value
returns-clause-value c = let e = halved c.self.inside.state in cc

pub returns-clause-state : goal.returns-clause-state
returns-clause-state c = let e = stepped c.self.inside.state in cc

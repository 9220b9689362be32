-- A whole tree was read, or lines inside one.
use Rattle.std.proofs.Common.{sym, subst}
use Rattle.domain_store.specs.States.{IsStateOf}
use Rattle.domain_store.proofs.Moves.{state_whole}
use Rattle.domain_store.proofs.walk.Walk.is_whole.Goals as goal

pub returns-clause-tree : goal.returns-clause-tree
returns-clause-tree c P start lines w =
    state_whole P start lines c.self.inside.domains c.self.inside.splits.items c.self.inside.whole (subst (IsStateOf P start lines) (sym c.self.view_is) w)

use Rattle.std.proofs.Common.{sym, subst}
use Rattle.rwsp_terms.specs.Instance.{Instance}
use Rattle.rwsp_terms.specs.Roster.{IsRoster}
use Rattle.ways_out.proofs.Staying.{roster_loosened}
use Rattle.ways_out.proofs.enough.is_enough.Goals as goal

pub first_broken-broken-requires : goal.first_broken-broken-requires
first_broken-broken-requires c =
    subst (λ (Q : Instance). IsRoster Q c.args.roster.now.cells) (sym c.in_ok-loosened.ensures)
    (roster_loosened c.args.problem.now c.args.change c.args.steps c.args.roster.now.cells c.requires.change c.requires.roster)

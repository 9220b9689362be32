use Rattle.std.proofs.Common.{subst, sym, refl, arith}
use Rattle.rwsp_terms.specs.Roster.{MeetsDay}
use Rattle.roster_checker.proofs.rules.failed_day.Goals as goal

pub returns-else-day_is_met : goal.returns-else-day_is_met
returns-else-day_is_met c = (
  λ met. let yes = c.day_is_met.ensures.1 (subst (MeetsDay c.args.problem.now c.args.day) (sym c.cells.ensures) met) in cc,
  omega arith,
  refl,
)

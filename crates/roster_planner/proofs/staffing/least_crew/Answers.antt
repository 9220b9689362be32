-- The rules of the automaton are the short ones of its own problem.
use Rattle.std.proofs.Common.{sym, subst}
use Rattle.rwsp_terms.specs.Instance.{Instance}
use Rattle.domain_store.specs.Cycles.{AreShortRules}
use Rattle.roster_planner.proofs.staffing.least_crew.Goals as goal

pub crew_over-run-requires-clause-short : goal.crew_over-run-requires-clause-short
crew_over-run-requires-clause-short g c = λ _ _.
    let is = c.in_ok-automaton.ensures in
    subst (λ (P : Instance). AreShortRules P c.in_ok-automaton.automaton.rules) (sym is.problem)
    (record { are_rules = is.rules; all_short = is.short })

-- The automaton's rules are the short ones of the problem with any number of weeks.
use Rattle.std.proofs.Common.{sym, subst}
use Rattle.domain_store.specs.Cycles.{AreShortRules}
use Rattle.clean_words.specs.Automata.{RuleAutomaton}
use Rattle.roster_planner.proofs.OtherWeeks.{short_there}
use Rattle.roster_planner.proofs.staffing.plan_for.Goals as goal

pub plan_over-found-requires-clause-short : goal.plan_over-found-requires-clause-short
plan_over-found-requires-clause-short g c = λ _ _.
    let own = c.args.made.automaton.now in
    subst (λ (a : RuleAutomaton). AreShortRules a.problem a.rules) {x = record own { problem = record own.problem { weeks = c.args.weeks } }} (sym c.in_ok-sized.ensures)
    (short_there own.problem c.args.weeks own.rules c.requires.short)

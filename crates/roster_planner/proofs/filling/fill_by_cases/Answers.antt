-- A log that the search found, without what it can do without.
use Rattle.std.proofs.Common.{◌∙◌, subst, arith}
use Rattle.refutation_terms.specs.declared.lines.Opening.{Opening}
use Rattle.refutation_terms.specs.declared.lines.Opening.TheVariants.{Given}
use Rattle.rule_reducer.specs.Leaving.{GivesNoMore}
use Rattle.roster_planner.specs.FoundFrom.{IsFoundFrom}
use Rattle.roster_planner.proofs.filling.fill_by_cases.Goals as goal

pub returns-in_ok-reduce_fill-in-NoRoster : goal.returns-in_ok-reduce_fill-in-NoRoster
returns-in_ok-reduce_fill-in-NoRoster g c =
    let P = c.args.problem.now in
    let log = c.in_ok-reduce_fill-in-NoRoster.field-0 in
    let r = c.in_ok-reduce_fill-in-NoRoster.ensures in
    let h = subst (IsFoundFrom P (Given c.args.given.now) c.args.budget) c.in-NoRoster.is c.in_ok-found.ensures in
    record {
      passes = r.passes;
      gives = subst (λ (o : Opening). GivesNoMore o log.opening) h.2.same_opening r.kept.opening;
      no_goal = r.kept.goal ∙ h.2.same_goal;
      may_count = r.kept.counts ∙ h.2.may_count;
      small = omega (arith, r.kept.size, h.1);
      cells = r.cells;
      rules = r.rules;
    }

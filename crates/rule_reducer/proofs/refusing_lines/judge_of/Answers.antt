use Rattle.std.proofs.Common.{subst, sym}
use Rattle.refutation_terms.specs.declared.lines.Opening.TheVariants.{Full}
use Rattle.refutation_terms.specs.Log.{GoalFits}
use Rattle.rule_reducer.proofs.Walking.{goal_fits, same_judging}
use Rattle.rule_reducer.proofs.refusing_lines.judge_of.Goals as goal

pub new-requires : goal.new-requires
new-requires c =
    let g = c.args.log.now in
    subst (GoalFits c.args.problem.now Full) (sym c.terms.ensures.goal) (goal_fits c.args.problem.now g.opening g.goal c.requires.goal)

pub returns : goal.returns
returns c = same_judging c.args.problem.now c.args.log.now c.new.result _ _ _ c.new.ensures c.named.ensures c.terms.ensures.goal c.terms.ensures.counts

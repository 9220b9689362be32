use Rattle.std.proofs.Common.{subst, sym}
use Rattle.rwsp_terms.specs.Window.{Bad}
use Rattle.rwsp_terms.specs.declared.data.Rule.{Rule}
use Rattle.domain_store.specs.Patterns.{IsPatternOf}
use Rattle.domain_store.proofs.Shapes.{pattern_of_most, pattern_of_least}
use Rattle.domain_store.proofs.pattern.pattern_of.Goals as goal

pub returns-in-Most : goal.returns-in-Most
returns-in-Most c = pattern_of_most c.args.problem.now c.args.rule c.in-Most.class c.over_greatest.result c.in-Most.is c.over_greatest.ensures

pub returns-in-Least : goal.returns-in-Least
returns-in-Least c = pattern_of_least c.args.problem.now c.args.rule c.in-Least.class c.under_least.result c.in-Least.is c.under_least.ensures

pub returns-in-Never : goal.returns-in-Never
returns-in-Never c = subst (λ (r : Rule). IsPatternOf (Bad c.args.problem.now r) c.forbidden.result) (sym c.in-Never.is) c.forbidden.ensures

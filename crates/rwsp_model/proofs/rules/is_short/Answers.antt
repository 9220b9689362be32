-- The bound that is looked at is the one that the definition names.
use Rattle.std.proofs.Common.{ap}
use Rattle.rwsp_terms.specs.declared.data.Rule.TheVariants.{Most, Least}
use Rattle.rwsp_terms.specs.declared.limits.TheConstants.{GREATEST_SHORT_BOUND}
use Rattle.rwsp_model.proofs.Limits.{Decides-leb}
use Rattle.rwsp_model.proofs.ShortRules.{short_by_test}
use Rattle.rwsp_model.proofs.rules.is_short.Goals as goal

pub returns-in-Most : goal.returns-in-Most
returns-in-Most c =
    short_by_test c.args.problem.now _ (Most c.in-Most.class) _ _ c.in-Most.is (ap (λ b. b.greatest) c.bounds.ensures.value) (Decides-leb _ GREATEST_SHORT_BOUND)

pub returns-in-Least : goal.returns-in-Least
returns-in-Least c =
    short_by_test c.args.problem.now _ (Least c.in-Least.class) _ _ c.in-Least.is (ap (λ b. b.least) c.bounds-in-Least.ensures.value) (Decides-leb _ GREATEST_SHORT_BOUND)

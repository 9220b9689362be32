use Rattle.std.proofs.Common.{ap}
use Rattle.rwsp_terms.specs.declared.data.Bounds.{Bounds}
use Rattle.clean_words.proofs.RuleMonitors.{of_most, of_least, of_never, of_day}
use Rattle.clean_words.proofs.monitor.watching.Goals as goal

pub returns-in-Most : goal.returns-in-Most
returns-in-Most c = of_most c.args.problem.now c.args.rule c.in-Most.class _ c.in-Most.is (ap (λ (b : Bounds). b.greatest) c.bounds.ensures.value) c.bounds.ensures.small.1

pub returns-in-Least : goal.returns-in-Least
returns-in-Least c =
    of_least c.args.problem.now c.args.rule c.in-Least.class _ _ c.in-Least.is (ap (λ (b : Bounds). b.least) c.bounds-in-Least.ensures.value) c.bounds-in-Least.ensures.small.0
    c.watched_least.ensures.value c.watched_least.ensures.few

pub returns-in-Never : goal.returns-in-Never
returns-in-Never c = of_never c.args.problem.now c.args.rule c.in-Never.place _ _ c.in-Never.is c.sequence.ensures.value c.days.ensures.value c.days.ensures.some c.days.ensures.few

pub returns-in-Day : goal.returns-in-Day
returns-in-Day c = of_day c.args.problem.now c.args.rule _ c.in-Day.is

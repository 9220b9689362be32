-- The place is the one that the definition gives.
use Rattle.std.proofs.Common.{◌+◌, ◌*◌, ap, sym, ◌∙◌}
use Rattle.rwsp_model.specs.RuleNumbers.{place_of}
use Rattle.rwsp_model.proofs.rules.place_of.Goals as goal

pub returns-in-Most-clause-value : goal.returns-in-Most-clause-value
returns-in-Most-clause-value c =
    ap (λ n. 2 * n) c.class_place.ensures.value ∙ ap (place_of c.args.problem.now) (sym c.in-Most.is)

pub returns-in-Least-clause-value : goal.returns-in-Least-clause-value
returns-in-Least-clause-value c =
    ap (λ n. 2 * n + 1) c.class_place-in-Least.ensures.value ∙ ap (place_of c.args.problem.now) (sym c.in-Least.is)

use Rattle.std.proofs.Common.{ap, arith, ◌+◌}
use Rattle.rwsp_model.proofs.Numbering.{number_at_place, number_within}
use Rattle.rwsp_model.proofs.rules.number_of.Goals as goal

pub returns-clause-value : goal.returns-clause-value
returns-clause-value c = number_at_place c.args.problem.now _ _ c.requires (ap (λ n. n + 1) c.place_of.ensures.value)

pub returns-clause-within : goal.returns-clause-within
returns-clause-within c =
    let w = number_within c.args.problem.now c.args.rule c.requires in
    (omega arith, omega (arith, w, c.place_of.ensures.value))

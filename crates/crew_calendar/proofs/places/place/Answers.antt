use Rattle.std.proofs.Common.{◌-◌, ◌≤◌, arith, mul-le-mul_right}
use Rattle.rwsp_terms.specs.declared.limits.TheConstants.{MOST_WEEKS}
use Rattle.crew_calendar.proofs.places.place.Goals as goal

pub overflow_mul-result : goal.overflow_mul-result
overflow_mul-result c =
    let before : c.args.employee - 1 ≤ MOST_WEEKS = omega (arith, c.requires.employee, c.prove_limits.ensures.few_weeks) in
    omega (arith, mul-le-mul_right c.days.result before, c.days.ensures.few)

pub overflow_add-result : goal.overflow_add-result
overflow_add-result c =
    let before : c.args.employee - 1 ≤ MOST_WEEKS = omega (arith, c.requires.employee, c.prove_limits.ensures.few_weeks) in
    omega (arith, mul-le-mul_right c.days.result before, c.days.ensures.few)

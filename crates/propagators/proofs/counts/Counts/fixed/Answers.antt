-- A counter holds no more than the weeks.
use Rattle.std.proofs.Common.{◌≡◌, ◌≤◌, ◌<◌, ap, arith}
use Rattle.rwsp_terms.specs.declared.limits.TheConstants.{MOST_SYMBOLS}
use Rattle.propagators.specs.Counted.{Counted}
use Rattle.propagators.specs.Tallies.{is_alone}
use Rattle.propagators.proofs.TallyLemmas.{tally_few}
use Rattle.propagators.proofs.counts.Counts.fixed.Goals as goal

pub returns-clause-few : goal.returns-clause-few
returns-clause-few c =
    let days : c.self.inside.days ≡ c.args.self.now.days = ap (λ (C : Counted). C.days) c.self.view_is in
    let weeks : c.self.inside.weeks ≡ c.args.self.now.weeks = ap (λ (C : Counted). C.weeks) c.self.view_is in
    let shifts : c.self.inside.shifts ≡ c.args.self.now.shifts = ap (λ (C : Counted). C.shifts) c.self.view_is in
    let small : c.args.x.number < MOST_SYMBOLS = omega (arith, c.requires.symbol, shifts, c.self.invariant.few_shifts) in
    let le : c.args.day ≤ c.self.inside.days = omega (arith, c.requires.day.1, days) in
    omega (arith, weeks, tally_few (is_alone c.self.inside.shifts) c.self.inside.days c.self.inside.weeks c.self.inside.sets c.self.inside.fixed.items c.args.day c.args.x.number c.index.result.now c.self.invariant.fixed_counted c.requires.day.0 le small c.index.ensures)

pub returns-clause-small : goal.returns-clause-small
returns-clause-small c =
    let weeks : c.self.inside.weeks ≡ c.args.self.now.weeks = ap (λ (C : Counted). C.weeks) c.self.view_is in
    omega (arith, weeks, returns-clause-few c, c.self.invariant.few_weeks)

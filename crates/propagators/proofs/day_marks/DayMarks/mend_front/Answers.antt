-- One day more is mended, and where its marks stay, all are.
use Rattle.std.proofs.Common.{◌≡◌, ◌+◌, ◌∙◌, length, rules, arith, ap}
use Rattle.propagators.proofs.Mending.{step_read, front_unmended, front_more, front_stays, fits_here}
use Rattle.propagators.specs.declared.marks.Way.TheVariants.{On}
use Rattle.propagators.specs.Marks.{row_at}
use Rattle.propagators.proofs.day_marks.DayMarks.mend_front.Goals as goal

pub renew-requires-clause-wide : goal.renew-requires-clause-wide
renew-requires-clause-wide c =
    fits_here c.args.steps.now c.args.self.now c.loop-i.self c.requires.wide c.loop-i.invariant.wide

pub returns-then-not-renew-clause-wide : goal.returns-then-not-renew-clause-wide
returns-then-not-renew-clause-wide c = λ width w. c.renew.ensures.wide width (c.loop-i.invariant.wide width w)

pub returns-then-not-renew-clause-steps : goal.returns-then-not-renew-clause-steps
returns-then-not-renew-clause-steps c =
    let steps = c.args.steps.now in
    let sets = c.args.sets.now in
    front_stays steps sets c.args.day c.args.self.now c.loop-i.self c.renew.new.self c.loop-i.i c.loop-i.invariant
    (step_read On steps sets c.loop-i.i (row_at c.renew.new.self c.loop-i.i) (row_at c.renew.new.self (c.loop-i.i + 1)) c.index-sets-i.result c.requires.some c.index-sets-i.is c.renew.ensures.step)
    (c.renew.ensures.unchanged c.if-not-renew.true)

pub loop-i-preserved : goal.loop-i-preserved
loop-i-preserved c =
    let steps = c.args.steps.now in
    let sets = c.args.sets.now in
    front_more steps sets c.args.day c.args.self.now c.loop-i.self c.renew.new.self c.loop-i.i c.loop-i.invariant
    (step_read On steps sets c.loop-i.i (row_at c.renew.new.self c.loop-i.i) (row_at c.renew.new.self (c.loop-i.i + 1)) c.index-sets-i.result c.requires.some c.index-sets-i.is c.renew.ensures.step)
    c.renew.ensures.others c.renew.ensures.long c.renew.ensures.wide

pub returns-then-not-renew-clause-before : goal.returns-then-not-renew-clause-before
returns-then-not-renew-clause-before c i less = ap (λ r. row_at r i) (c.renew.ensures.unchanged c.if-not-renew.true) ∙ c.loop-i.invariant.before i less

pub returns-then-not-renew-clause-behind : goal.returns-then-not-renew-clause-behind
returns-then-not-renew-clause-behind c i less within = ap (λ r. row_at r i) (c.renew.ensures.unchanged c.if-not-renew.true) ∙ c.loop-i.invariant.behind i less

pub loop-i-init : goal.loop-i-init
loop-i-init c = front_unmended c.args.steps.now c.args.sets.now c.args.day c.args.self.now

pub returns-clause-steps : goal.returns-clause-steps
returns-clause-steps c i within old =
    let rows : c.len-i-end.result ≡ length c.args.self.now = search rules in
    c.loop-i.invariant.mended i within (λ e. omega (arith, e, within, rows)) old

pub returns-clause-behind : goal.returns-clause-behind
returns-clause-behind c i past within =
    let rows : c.len.result ≡ length c.loop-i.self = search rules in
    absurd (omega (arith, past, within, rows))

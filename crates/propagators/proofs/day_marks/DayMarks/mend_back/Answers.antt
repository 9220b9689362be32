-- One day more is mended, and where its marks stay, all are.
use Rattle.std.proofs.Common.{◌≡◌, ◌+◌, ◌-◌, ◌∙◌, arith, ap}
use Rattle.propagators.proofs.Mending.{step_read, back_unmended, back_more, back_stays, fits_here}
use Rattle.propagators.specs.declared.marks.Way.TheVariants.{Back}
use Rattle.propagators.specs.Marks.{row_at}
use Rattle.propagators.proofs.day_marks.DayMarks.mend_back.Goals as goal

pub renew-requires-clause-wide : goal.renew-requires-clause-wide
renew-requires-clause-wide c =
    fits_here c.args.steps.now c.args.self.now c.loop-i.self c.requires.wide c.loop-i.invariant.wide

pub returns-then-not-renew-clause-wide : goal.returns-then-not-renew-clause-wide
returns-then-not-renew-clause-wide c = λ width w. c.renew.ensures.wide width (c.loop-i.invariant.wide width w)

pub returns-then-not-renew-clause-steps : goal.returns-then-not-renew-clause-steps
returns-then-not-renew-clause-steps c =
    let steps = c.args.steps.now in
    let sets = c.args.sets.now in
    let next : c.loop-i.i ≡ c.loop-i.i - 1 + 1 = omega (arith, c.loop-i-test.true) in
    back_stays steps sets c.args.day c.args.self.now c.loop-i.self c.renew.new.self (c.loop-i.i - 1) c.loop-i.i next c.loop-i.invariant
    (step_read Back steps sets (c.loop-i.i - 1) (row_at c.renew.new.self (c.loop-i.i - 1 + 1)) (row_at c.renew.new.self (c.loop-i.i - 1)) c.index-sets-i.result c.requires.some c.index-sets-i.is c.renew.ensures.step)
    (c.renew.ensures.unchanged c.if-not-renew.true)

pub loop-i-preserved : goal.loop-i-preserved
loop-i-preserved c =
    let steps = c.args.steps.now in
    let sets = c.args.sets.now in
    let next : c.loop-i.i ≡ c.loop-i.i - 1 + 1 = omega (arith, c.loop-i-test.true) in
    back_more steps sets c.args.day c.args.self.now c.loop-i.self c.renew.new.self (c.loop-i.i - 1) c.loop-i.i next c.loop-i.invariant
    (step_read Back steps sets (c.loop-i.i - 1) (row_at c.renew.new.self (c.loop-i.i - 1 + 1)) (row_at c.renew.new.self (c.loop-i.i - 1)) c.index-sets-i.result c.requires.some c.index-sets-i.is c.renew.ensures.step)
    c.renew.ensures.others c.renew.ensures.long c.renew.ensures.wide

pub returns-then-not-renew-clause-before : goal.returns-then-not-renew-clause-before
returns-then-not-renew-clause-before c i less = ap (λ r. row_at r (i + 1)) (c.renew.ensures.unchanged c.if-not-renew.true) ∙ c.loop-i.invariant.before (i + 1) (omega (arith, less))

pub loop-i-init : goal.loop-i-init
loop-i-init c = back_unmended c.args.steps.now c.args.sets.now c.args.day c.args.self.now

pub returns-clause-steps : goal.returns-clause-steps
returns-clause-steps c i within old = c.loop-i.invariant.mended i within (λ e. omega (arith, e, c.loop-i-test.false)) old

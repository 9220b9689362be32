use Rattle.std.proofs.Common.{refl, IsTrue}
use Rattle.refutation_checker.proofs.HeaderFaults.{day_unnamed}
use Rattle.refutation_checker.proofs.turn.turn_fault.Goals as goal

pub returns-then-not-holds : goal.returns-then-not-holds
returns-then-not-holds c = (
  refl,
  day_unnamed c.args.problem.now c.args.named.now c.args.turn.day c.number_of-day.result c.number_of-day.ensures.value
      (λ held. let there : IsTrue c.holds.result = c.holds.ensures.1 held in absurd (cc)),
)

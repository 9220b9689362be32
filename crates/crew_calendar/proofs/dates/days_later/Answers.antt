use Rattle.std.proofs.Common.{◌≡◌, pos, ◌+ℤ◌, arith, ap, ◌∙◌, FitsSigned, w64}
use Rattle.std.proofs.lemmas.Int.{to_z-of_z}
use Rattle.std.proofs.lemmas.Result.{IfOk-weaker}
use Rattle.jiff_core.proofs.DateLemmas.{epoch_day_range, days_from_civil-max}
use Rattle.jiff.proofs.SpanFacts.{signed_arith, date_add-days, can_add-days}
use Rattle.crew_calendar.specs.Calendar.{epoch_day}
use Rattle.crew_calendar.proofs.dates.days_later.Goals as goal

pub returns-clause-succeeds : goal.returns-clause-succeeds
returns-clause-succeeds c =
    let fits : FitsSigned w64 c.from.result = omega (arith, signed_arith, c.from.ensures) in
    let only = simp to_z-of_z at c.days.ensures in
    let can = can_add-days c.args.date c.from.result c.days.result only in
    let s = c.checked_add.ensures.succeeds in
    let from = epoch_day_range c.args.date in (
      λ ok. let day = can.0 (s.0 ok) in omega (arith, signed_arith, c.from.ensures, days_from_civil-max, day.1),
      λ within. s.1 (can.1 (omega (arith, signed_arith, c.from.ensures, days_from_civil-max, from.0), omega (arith, signed_arith, c.from.ensures, days_from_civil-max, within))),
    )

pub returns-clause-value : goal.returns-clause-value
returns-clause-value c =
    let fits : FitsSigned w64 c.from.result = omega (arith, signed_arith, c.from.ensures) in
    let only = simp to_z-of_z at c.days.ensures in
    let days : epoch_day c.args.date +ℤ c.from.result ≡ epoch_day c.args.date +ℤ pos c.args.days = ap (λ n. epoch_day c.args.date +ℤ n) c.from.ensures in
    IfOk-weaker c.checked_add.result _ _ (λ d e. e ∙ date_add-days c.args.date c.from.result c.days.result only ∙ days) c.checked_add.ensures.value

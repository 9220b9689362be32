-- There is a calendar wherever its last day is a date, and one day has one date.
use Rattle.std.proofs.Common.{◌≡◌, ℕ, zero, suc, ◌+◌, ◌<◌, ◌≤◌, inl, inr, ℤ, pos, ◌+ℤ◌, refl, ap, sym, ◌∙◌, arith}
use Rattle.std.specs.Prelude.{◌<ℤ◌, ◌≤ℤ◌}
use Rattle.std.proofs.lemmas.Bool.{cases_order}
use Rattle.std.proofs.lemmas.Int.{by_lt_z}
use Rattle.jiff_core.specs.Calendar.{days_from_civil, days_in_month}
use Rattle.jiff_core.proofs.CalendarLemmas.{days_in_month_bounds}
use Rattle.jiff_core.proofs.SignedLemmas.{signed_arith}
use Rattle.jiff_core.proofs.DateLemmas.{epoch_day_injective, days_from_civil-day, days_from_civil-next_month, days_from_civil-next_year, days_from_civil-max}
use Rattle.crew_calendar.specs.Calendar.{Date, epoch_day, date_text, IsCalendar, IsWithinDates, last_day}

-- two dates of one day have one text
pub one_text : (a b : Date) → epoch_day a ≡ epoch_day b → date_text a ≡ date_text b
one_text a b same =
    let parts = epoch_day_injective a b same in
    rw (parts.0, parts.1, parts.2)

abbrev IsNext : Date → Date → Type 0
IsNext d n = epoch_day n ≡ epoch_day d +ℤ pos 1

next_in_month : (d : Date) → d.day < days_in_month d.year d.month → (n : Date) × IsNext d n
next_in_month d more =
    let n : Date = record { year = d.year; month = d.month; day = d.day + 1; year_in = d.year_in; month_in = d.month_in; day_in = (omega arith, omega (arith, more)) } in
    (n, omega (arith, signed_arith, days_from_civil-day d.year d.month d.day (d.day + 1) d.day_in.0 (omega arith)))

next_month : (d : Date) → d.day ≡ days_in_month d.year d.month → d.month < 12 → (n : Date) × IsNext d n
next_month d last more =
    let some : 1 ≤ days_in_month d.year (d.month + 1) = omega (arith, (days_in_month_bounds d.year (d.month + 1)).1) in
    let n : Date = record { year = d.year; month = d.month + 1; day = 1; year_in = d.year_in; month_in = (omega arith, omega (arith, more)); day_in = (omega arith, some) } in
    (n, days_from_civil-next_month d.year d.month d.day d.month_in.0 last)

next_year : (d : Date) → d.day ≡ days_in_month d.year d.month → d.month ≡ 12 → epoch_day d <ℤ pos 2_932_896 → (n : Date) × IsNext d n
next_year d last month more =
    let day : d.day ≡ 31 = last ∙ ap (λ m. days_in_month d.year m) month in
    let here : epoch_day d ≡ days_from_civil d.year 12 31 = rw (month, day) in
    let early : d.year <ℤ pos 9999 = by_lt_z d.year (pos 9999) (λ less. less)
    (λ past. let e : d.year ≡ pos 9999 = omega (arith, signed_arith, d.year_in, past) in
    absurd (omega (arith, signed_arith, more, here ∙ ap (λ y. days_from_civil y 12 31) e ∙ days_from_civil-max))) in
    let n : Date = record { year = d.year +ℤ pos 1; month = 1; day = 1; year_in = (omega (arith, signed_arith, d.year_in.0), omega (arith, signed_arith, early)); month_in = (omega arith, omega arith); day_in = (omega arith, omega arith) } in
    (n, days_from_civil-next_year d.year (d.year +ℤ pos 1) (omega (arith, signed_arith, d.year_in.0)) refl ∙ ap (λ z. z +ℤ pos 1) (sym here))

-- the date that follows
next : (d : Date) → epoch_day d <ℤ pos 2_932_896 → (n : Date) × IsNext d n
next d more =
    elim (cases_order d.day (days_in_month d.year d.month)) [
      | inr (inl less) ↦ next_in_month d less
      | inl last ↦ elim (cases_order d.month 12) [
        | inr (inl less) ↦ next_month d last less
        | inl december ↦ next_year d last december more
        | inr (inr past) ↦ absurd (omega (arith, d.month_in.1, past))
      ]
      | inr (inr past) ↦ absurd (omega (arith, d.day_in.1, past))
    ]

-- the date t days later
later : (d : Date) (t : ℕ) → (epoch_day d +ℤ pos t) ≤ℤ pos 2_932_896 → (n : Date) × (epoch_day n ≡ epoch_day d +ℤ pos t)
later d zero h = (d, omega (arith, signed_arith))
later d (suc t) h =
    let m = later d t (omega (arith, signed_arith, h)) in
    let n = next m.0 (omega (arith, signed_arith, h, m.1)) in
    (n.0, omega (arith, signed_arith, m.1, n.1))

pub later_or_same : (d : Date) (t : ℕ) → (n : Date) × ((epoch_day d +ℤ pos t) ≤ℤ pos 2_932_896 → epoch_day n ≡ epoch_day d +ℤ pos t)
later_or_same d t =
    by_lt_z (pos 2_932_896) (epoch_day d +ℤ pos t)
    (λ past. (d, λ within. absurd (omega (arith, signed_arith, past, within))))
    (λ within. let n = later d t within in (n.0, λ _. n.1))

-- the dates from a date on
unfoldable pub calendar_from : Date → ℕ → Date
calendar_from d t = (later_or_same d t).0

pub is_calendar : (date : Date) (days : ℕ) → IsWithinDates date days → IsCalendar date days (calendar_from date)
unfolding calendar_from
is_calendar date days within t less =
    (later_or_same date t).1 (omega (arith, signed_arith, within, days_from_civil-max))

-- where days fit fewer days fit too
up_to : (day last : ℤ) (few days : ℕ) → few ≤ days → (day +ℤ pos days) ≤ℤ last → (day +ℤ pos few) ≤ℤ last
up_to day last few days le fits = omega (arith, signed_arith)

pub fewer_fit : (date : Date) (few days : ℕ) → few ≤ days → IsWithinDates date days → IsWithinDates date few
fewer_fit date few days le fits = up_to (epoch_day date) last_day few days le fits

-- Who works on a date is said once.
use Rattle.std.proofs.Common.{◌≡◌, ℕ, List, ap, sym, ◌∙◌, arith, pos, ◌+ℤ◌}
use Rattle.jiff_core.proofs.SignedLemmas.{signed_arith}
use Rattle.rwsp_terms.specs.Instance.{Instance}
use Rattle.rwsp_terms.specs.declared.data.Symbol.{Symbol}
use Rattle.crew_calendar.specs.Calendar.{Date, epoch_day}
use Rattle.crew_calendar.specs.OnDate.{on_text, IsOn}

same_days : (P : Instance) (s : List Symbol) (start date : Date) (t u : ℕ) → epoch_day date ≡ epoch_day start +ℤ pos t → epoch_day date ≡ epoch_day start +ℤ pos u → t ≡ u
same_days P s start date t u h k = omega (arith, signed_arith, h, k)

pub one_on : (P : Instance) (s : List Symbol) (start date : Date) (text other : List ℕ) → IsOn P s start date text → IsOn P s start date other → text ≡ other
one_on P s start date text other h k =
    h.is ∙ ap (on_text P s date) (same_days P s start date h.t k.t h.days k.days) ∙ sym k.is

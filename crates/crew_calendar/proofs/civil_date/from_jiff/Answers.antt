use Rattle.std.proofs.Common.{arith, ap, ◌∙◌, FitsSigned, w16}
use Rattle.std.proofs.lemmas.Int.{to_z-of_z}
use Rattle.jiff_core.proofs.SignedLemmas.{signed_arith}
use Rattle.crew_calendar.proofs.DateWords.{same_parts}
use Rattle.crew_calendar.proofs.civil_date.from_jiff.Goals as goal

pub returns : goal.returns
returns c =
    let plain = c.to_plain-plain.result in
    let fits : FitsSigned w16 plain.year = omega (arith, signed_arith, plain.year_in) in
    let is = c.to_plain-plain.ensures in
    same_parts _ c.args.date (to_z-of_z w16 plain.year fits ∙ ap (λ d. d.year) is) (ap (λ d. d.month) is) (ap (λ d. d.day) is)

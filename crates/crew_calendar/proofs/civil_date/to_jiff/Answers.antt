use Rattle.std.proofs.Common.{arith, ap, ◌∙◌, FitsSigned, w16}
use Rattle.std.proofs.lemmas.Int.{to_z-of_z}
use Rattle.jiff_core.proofs.SignedLemmas.{signed_arith}
use Rattle.crew_calendar.proofs.DateWords.{same_parts}
use Rattle.crew_calendar.proofs.civil_date.to_jiff.Goals as goal

pub returns : goal.returns
returns c =
    let parts = c.date.inside in
    let fits : FitsSigned w16 parts.year = omega (arith, signed_arith, parts.year_in) in
    let given = c.from_plain.ensures in
    let is = c.date.view_is in
    same_parts c.from_plain.result c.args.date (ap (λ d. d.year) given ∙ to_z-of_z w16 parts.year fits ∙ ap (λ d. d.year) is) (ap (λ d. d.month) given ∙ ap (λ d. d.month) is) (ap (λ d. d.day) given ∙ ap (λ d. d.day) is)

-- The text of a staff text's refusal.
use Rattle.std.specs.Prelude.{ℕ, List, ◌++◌, codes}
use Rattle.std.specs.Fmt.{decimal}
use Rattle.rwsp_terms.specs.Instance.{Instance}
use Rattle.rwsp_text.specs.Labels.{at_line}
use Rattle.roster_print.specs.RefusalText.{roster_refusal_text}
use Rattle.roster_checker.specs.BreaksText.{breaks_text, HasBroken}
use Rattle.refutation_log.specs.RefusalText.{log_refusal_text, HasSymbols}
use Rattle.crew_size.specs.declared.verdict.StaffRefusal.{StaffRefusal}
use Rattle.crew_size.specs.declared.verdict.StaffRefusal.TheVariants as Failures

-- a failure at a number of weeks
abbrev pub at_weeks : ℕ → List ℕ → List ℕ
at_weeks m text = codes "staff refused: weeks " ++ decimal m ++ codes " " ++ text

-- the first failure of a staff text. Rules and symbols have the same numbers and names whatever the number of weeks
abbrev pub staff_refusal_text : Instance → StaffRefusal → List ℕ
staff_refusal_text P (Failures.Form number) = at_line (codes "staff refused: form") number
staff_refusal_text P (Failures.Log m why) = at_weeks m (log_refusal_text P why)
staff_refusal_text P (Failures.Roster m why) = at_weeks m (roster_refusal_text why)
staff_refusal_text P (Failures.Breaks m broken) = at_weeks m (breaks_text P broken)
staff_refusal_text P Failures.Ends = codes "staff refused: ends"

-- what a failure of a staff text names is the instance's
abbrev pub NamesItsOwn : Instance → StaffRefusal → Type 0
NamesItsOwn P (Failures.Log m why) = HasSymbols P why
NamesItsOwn P (Failures.Breaks m broken) = HasBroken P broken
NamesItsOwn P why = Unit {0}

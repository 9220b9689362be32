-- What holds for all texts and rosters.
use Rattle.std.specs.Prelude.{◌≡◌, ◌↔◌, ℕ, ◌≤◌, List, length, Some, MatchOption}
use Rattle.rwsp_terms.specs.declared.limits.TheConstants.{LONGEST_FILE}
use Rattle.rwsp_terms.specs.Instance.{Instance}
use Rattle.rwsp_terms.specs.Roster.{IsRoster}
use Rattle.rwsp_terms.specs.declared.data.Symbol.{Symbol}
use Rattle.rwsp_model.specs.Validity.{IsValid}
use Rattle.roster_print.specs.RosterText.{SpellsRoster, roster_text}
use Rattle.roster_print.specs.Refusal.{refusal_of_roster}
use Rattle.roster_print.specs.FirstFailures.{IsFirstFailure}
use Rattle.roster_print.specs.declared.refusal.RosterRefusal.{RosterRefusal}

-- a text spells one roster at most
abbrev pub TextSpellsOneRoster : Type 0
TextSpellsOneRoster =
    (P : Instance) (bytes : List ℕ) (s t : List Symbol) → SpellsRoster P bytes s → SpellsRoster P bytes t → s ≡ t

-- a text that isn't refused spells a roster, and one that is refused spells none
abbrev pub RefusalsDecideSpelling : Type 0
RefusalsDecideSpelling =
    (P : Instance) (bytes : List ℕ)
    → MatchOption (refusal_of_roster P bytes)
    ((s : List Symbol) × SpellsRoster P bytes s)
    (λ why. (s : List Symbol) → SpellsRoster P bytes s → ⊥)

-- what a text spells has a symbol for each cell
abbrev pub SpelledIsRoster : Type 0
SpelledIsRoster = (P : Instance) (bytes : List ℕ) (s : List Symbol) → SpellsRoster P bytes s → IsRoster P s

-- the printed text of a roster of a valid problem spells it
abbrev pub PrintedIsSpelled : Type 0
PrintedIsSpelled = (P : Instance) (s : List Symbol) → IsValid P → IsRoster P s → SpellsRoster P (roster_text P s) s

-- and is short enough to be read
abbrev pub PrintedIsShort : Type 0
PrintedIsShort = (P : Instance) (s : List Symbol) → IsValid P → IsRoster P s → length (roster_text P s) ≤ LONGEST_FILE

-- where weeks have days, a text is refused for exactly what fails first in it
abbrev pub RefusalsAreFirst : Type 0
RefusalsAreFirst =
    (P : Instance) (bytes : List ℕ) (why : RosterRefusal)
    → 1 ≤ P.days → (refusal_of_roster P bytes ≡ Some why) ↔ IsFirstFailure P bytes why

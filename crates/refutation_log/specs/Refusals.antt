-- Why a line of text is no line of a log.
use Rattle.std.specs.Prelude.{◌≡◌, ◌≢◌, ℕ, ◌+◌, ◌≤◌, List, Bool, true, Option, None, Some}
use Rattle.rwsp_terms.specs.Instance.{Instance}
use Rattle.refutation_terms.specs.declared.lines.Version.{Version}
use Rattle.refutation_terms.specs.declared.lines.LogKind.{LogKind}
use Rattle.refutation_terms.specs.declared.lines.Opening.{Opening}
use Rattle.refutation_terms.specs.declared.lines.Opening.TheVariants.{Full, Turned}
use Rattle.refutation_terms.specs.declared.cells.GivenCell.{GivenCell}
use Rattle.refutation_terms.specs.GivenCells.{AreGivenIn}
use Rattle.refutation_terms.specs.LogText.{version_text, rules_text, goal_text, no_turn_text, cells_text}
use Rattle.refutation_terms.specs.Ranges.{AreRules}
use Rattle.rwsp_text.specs.Fields.{NamedCell}
use Rattle.refutation_terms.specs.Verdict.{kind_of, SpellsNothing, SpellsUnknown, SpellsNoTurn, SpellsNoOpening, TurnsTo, TurnsToUnknown, SpellsCells, SpellsUnknownCell}
use Rattle.refutation_log.specs.declared.refusal.LineRefusal.{LineRefusal}
use Rattle.refutation_log.specs.declared.refusal.LineRefusal.TheVariants.{Form, Name}

-- no written line of a log with this goal or none, which may count or not, is spelled, or one with a name that is no
-- symbol's
abbrev pub IsLineRefused : Instance → Option ℕ → Bool → List ℕ → LineRefusal → Type 0
IsLineRefused P goal counts bytes Form = SpellsNothing P goal counts bytes
IsLineRefused P goal counts bytes Name = SpellsUnknown P goal counts bytes

-- no turn is spelled, or one to a name that is no symbol's
abbrev pub IsTurnRefused : Instance → List ℕ → LineRefusal → Type 0
IsTurnRefused P bytes Form = SpellsNoTurn P bytes
IsTurnRefused P bytes Name = TurnsToUnknown P bytes

-- the bytes spell this opening: a turn, or none in a log that may count
abbrev pub SpellsOpening : Instance → Bool → List ℕ → Opening → Type 0
SpellsOpening P true bytes Full = bytes ≡ no_turn_text
SpellsOpening P counts bytes (Turned t) = TurnsTo P bytes t.day t.x
SpellsOpening P counts bytes o = ⊥

-- no opening is spelled, or a turn to a name that is no symbol's
abbrev pub IsOpeningRefused : Instance → Bool → List ℕ → LineRefusal → Type 0
IsOpeningRefused P counts bytes Form = SpellsNoOpening P counts bytes
IsOpeningRefused P counts bytes Name = TurnsToUnknown P bytes

-- the bytes spell these given cells
abbrev pub SpellsGivenCells : Instance → List ℕ → List GivenCell → Type 0
SpellsGivenCells P bytes given = AreGivenIn P given × (bytes ≡ cells_text P given)

-- they spell none, or some with a name that is no symbol's
abbrev pub AreCellsRefused : Instance → List ℕ → LineRefusal → Type 0
AreCellsRefused P bytes Form = (named : List NamedCell) → SpellsCells P bytes named → ⊥
AreCellsRefused P bytes Name = SpellsUnknownCell P bytes

-- the bytes spell this version of logs of the kind, or none
abbrev pub SpellsVersion : LogKind → List ℕ → Option Version → Type 0
SpellsVersion kind bytes None = (v : Version) → kind_of v ≡ kind → bytes ≢ version_text v
SpellsVersion kind bytes (Some v) = (kind_of v ≡ kind) × (bytes ≡ version_text v)

-- the bytes spell this list of rules, or none
abbrev pub SpellsRules : Instance → List ℕ → Option (List ℕ) → Type 0
SpellsRules P bytes None = (R : List ℕ) → AreRules P R → bytes ≢ rules_text R
SpellsRules P bytes (Some R) = AreRules P R × (bytes ≡ rules_text R)

-- the bytes spell this goal, or none
abbrev pub SpellsGoal : Instance → List ℕ → Option ℕ → Type 0
SpellsGoal P bytes None = (goal : ℕ) → goal ≤ P.weeks + 1 → bytes ≢ goal_text goal
SpellsGoal P bytes (Some goal) = (goal ≤ P.weeks + 1) × (bytes ≡ goal_text goal)

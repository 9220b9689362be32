-- The header of a log's text, as one of a kind.
use Rattle.std.specs.Prelude.{◌≡◌, ℕ, ◌+◌, ◌≤◌, List, [], ◌++◌, Bool, true, false, Option, Some, None}
use Rattle.rwsp_terms.specs.Instance.{Instance}
use Rattle.refutation_terms.specs.declared.lines.Version.{Version}
use Rattle.refutation_terms.specs.declared.lines.Version.TheVariants.{Version1, Version2, Version3, Free1, Free2, Fill1}
use Rattle.refutation_terms.specs.declared.lines.LogKind.{LogKind}
use Rattle.refutation_terms.specs.declared.lines.Opening.{Opening}
use Rattle.refutation_terms.specs.declared.lines.Opening.TheVariants.{Full}
use Rattle.refutation_terms.specs.declared.lines.LogRefusal.{LogRefusal}
use Rattle.refutation_terms.specs.declared.lines.LogRefusal.TheVariants as Refusals
use Rattle.refutation_terms.specs.Ranges.{AreRules}
use Rattle.refutation_terms.specs.Log.{OpeningFits, CountsFit}
use Rattle.refutation_terms.specs.LogText.{header_text, version_of, opening_text, third_text}
use Rattle.refutation_terms.specs.Verdict.{kind_by, turn_version, SpellsNoOpening, TurnsToUnknown, GoalCause, CellsCause, IsRefused}
use Rattle.rwsp_text.specs.Lines.{IsNextLine}
use Rattle.refutation_log.specs.ReadLog.{IsUnread}

-- a goal is at most one more than the weeks, and a log with one has no turn and no given cells
abbrev pub GoalIsInRange : Instance → Opening → Option ℕ → Type 0
GoalIsInRange P o None = Unit {0}
GoalIsInRange P o (Some goal) = (o ≡ Full) × (goal ≤ P.weeks + 1)

-- the text begins with the header of a log of this kind, whose numbers are in their ranges, and the rest is its body
pub record BeginsWithHeader (P : Instance) (kind : LogKind) (text : List ℕ) (named : List ℕ) (opening : Opening)
    (goal : Option ℕ) (counts : Bool) (body : List ℕ) : Type 0 where
  pub of_kind : kind_by opening goal ≡ kind
  pub rules : AreRules P named
  pub fits : OpeningFits P opening
  pub in_range : GoalIsInRange P opening goal
  pub may_count : CountsFit opening counts
  pub whole : text ≡ header_text P named opening goal counts ++ body

-- as the text of a log of this kind it is refused at its header, by reading and as the verdict is
abbrev pub IsHeaderRefused : Instance → LogKind → List ℕ → LogRefusal → Type 0
IsHeaderRefused P kind text why = IsUnread P kind text why × IsRefused P kind text why

-- what is left of a text ends, or continues with a line that has such a cause
abbrev pub StopsFor : (List ℕ → LogRefusal → Type 0) → List ℕ → LogRefusal → Type 0
StopsFor HasCause left Refusals.Ends = left ≡ []
StopsFor HasCause left why =
    (line : List ℕ) × (rest : List ℕ) × (left ≡ line ++ rest) × IsNextLine line rest × HasCause line why

-- whether a log of this version may count
abbrev pub version_counts : Version → Bool
version_counts Version3 = true
version_counts Free2 = true
version_counts Fill1 = true
version_counts v = false

-- why reading alone refuses the line of the turn of a log which may count or not
abbrev pub OpeningReadCause : Instance → Bool → List ℕ → LogRefusal → Type 0
OpeningReadCause P counts bytes (Refusals.Form i) = (i ≡ 3) × SpellsNoOpening P counts bytes
OpeningReadCause P counts bytes (Refusals.Name i) = (i ≡ 3) × TurnsToUnknown P bytes
OpeningReadCause P counts bytes why = ⊥

-- what is left stops at the third line, if the version has one
abbrev pub StopsAtThird : Instance → Version → List ℕ → LogRefusal → Type 0
StopsAtThird P Version1 left why = ⊥
StopsAtThird P Version2 left why = StopsFor (OpeningReadCause P false) left why
StopsAtThird P Version3 left why = StopsFor (OpeningReadCause P true) left why
StopsAtThird P Free1 left why = StopsFor (GoalCause P) left why
StopsAtThird P Free2 left why = StopsFor (GoalCause P) left why
StopsAtThird P Fill1 left why = StopsFor (CellsCause P) left why

-- what is left begins with the line of this turn, or of none, of a log which may count or not, and the rest follows
pub record HasOpening (P : Instance) (counts : Bool) (o : Opening) (left rest : List ℕ) : Type 0 where
  pub of_version : version_of o None counts ≡ turn_version counts
  pub fits : OpeningFits P o
  pub whole : left ≡ opening_text P o counts ++ rest

-- the version is that of a log with this opening and this goal or none; what is left begins with its third line, if it
-- has one, and the rest follows
pub record IsThird (P : Instance) (version : Version) (o : Opening) (goal : Option ℕ) (left rest : List ℕ) : Type 0 where
  pub of_version : version_of o goal (version_counts version) ≡ version
  pub fits : OpeningFits P o
  pub in_range : GoalIsInRange P o goal
  pub whole : left ≡ third_text P o goal (version_counts version) ++ rest

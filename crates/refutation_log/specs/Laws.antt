-- Laws of the text of logs of valid problems.
use Rattle.std.specs.Prelude.{◌≡◌, ℕ, List, Bool, Option, Result}
use Rattle.rwsp_terms.specs.Instance.{Instance}
use Rattle.rwsp_model.specs.Validity.{KeepsLimits}
use Rattle.refutation_terms.specs.declared.lines.LogKind.{LogKind}
use Rattle.refutation_terms.specs.declared.lines.LogRefusal.{LogRefusal}
use Rattle.refutation_terms.specs.Tree.{IsTree}
use Rattle.refutation_terms.specs.Log.{Log, Fits}
use Rattle.refutation_terms.specs.LogText.{log_text}
use Rattle.refutation_terms.specs.Verdict.{kind_of_log, IsVerdict}
use Rattle.refutation_terms.specs.declared.lines.Opening.{Opening}
use Rattle.refutation_log.specs.Headers.{BeginsWithHeader}
use Rattle.refutation_log.specs.ReadLog.{IsUnread, HasLogsOf}

-- texts that begin with one header, of a kind each, have its kind, its rules, its opening, its goal, whether it may
-- count, and what is behind it
abbrev pub TextsHaveOneHeader : Type 0
TextsHaveOneHeader =
    (P : Instance) (kind other : LogKind) (text R Q : List ℕ) (o p : Opening) (goal aim : Option ℕ) (counts may : Bool)
    (body rest : List ℕ) → KeepsLimits P → HasLogsOf P kind → HasLogsOf P other
    → BeginsWithHeader P kind text R o goal counts body → BeginsWithHeader P other text Q p aim may rest
    → (kind ≡ other) × (R ≡ Q) × (o ≡ p) × (goal ≡ aim) × (counts ≡ may) × (body ≡ rest)

-- no two logs that fit a problem, of one kind or of two, have one text
abbrev pub LogsHaveOneText : Type 0
LogsHaveOneText =
    (P : Instance) (g h : Log) → KeepsLimits P → Fits P g → Fits P h → log_text P g ≡ log_text P h → g ≡ h

-- the text of a whole log that fits is not refused by reading as one of its kind
abbrev pub TextsOfLogsAreRead : Type 0
TextsOfLogsAreRead = (P : Instance) (g : Log) (why : LogRefusal) → KeepsLimits P → Fits P g → IsTree g.lines
    → IsUnread P (kind_of_log g) (log_text P g) why → ⊥

-- as a log of a kind a text has one verdict at most
abbrev pub TextsHaveOneVerdict : Type 0
TextsHaveOneVerdict =
    (P : Instance) (kind : LogKind) (text : List ℕ) (verdict other : Result Log LogRefusal) → KeepsLimits P
    → IsVerdict P kind text verdict → IsVerdict P kind text other → verdict ≡ other

-- a text that is refused by reading as a log of a kind has one cause
abbrev pub UnreadTextsHaveOneCause : Type 0
UnreadTextsHaveOneCause =
    (P : Instance) (kind : LogKind) (text : List ℕ) (why other : LogRefusal) → KeepsLimits P
    → IsUnread P kind text why → IsUnread P kind text other → why ≡ other

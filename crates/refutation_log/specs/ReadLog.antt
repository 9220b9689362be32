-- Why a text is refused by reading alone: its lines are spelled, its names known, and it is one whole tree. What the
-- lines say isn't looked at.
use Rattle.std.specs.Prelude.{◌≡◌, ℕ, ◌+◌, ◌-◌, ◌<◌, ◌≤◌, List, [], ◌++◌, length, take, Bool, Option}
use Rattle.rwsp_terms.specs.declared.limits.TheConstants.{LONGEST_LOG, DAYS_OF_WEEK}
use Rattle.rwsp_terms.specs.Instance.{Instance}
use Rattle.refutation_terms.specs.declared.lines.LogKind.{LogKind}
use Rattle.refutation_terms.specs.declared.lines.LogKind.TheVariants.{WithoutGoal, WithGoal, WithCells}
use Rattle.refutation_terms.specs.declared.lines.Line.{Line}
use Rattle.refutation_terms.specs.declared.lines.Line.TheVariants.{Split}
use Rattle.refutation_terms.specs.declared.lines.Opening.{Opening}
use Rattle.refutation_terms.specs.declared.lines.LogRefusal.{LogRefusal}
use Rattle.refutation_terms.specs.declared.lines.LogRefusal.TheVariants as Refusals
use Rattle.refutation_terms.specs.Ranges.{AreRules}
use Rattle.refutation_terms.specs.Tree.{IsTree}
use Rattle.refutation_terms.specs.Log.{Log, Fits}
use Rattle.refutation_terms.specs.LogText.{header_text, lines_text, log_text}
use Rattle.refutation_terms.specs.Verdict.{kind_by, kind_of_log, Front, BeforeTurn, BeforeGoal, BeforeCells, Reading, IsFrontOf, Cause, IsRefusedBehindFront, EndsWithFront}
use Rattle.refutation_log.specs.declared.header.Header.{Header}
use Rattle.refutation_log.specs.declared.refusal.LineRefusal.TheVariants as Lines
use Rattle.refutation_log.specs.Refusals.{IsLineRefused}

-- the causes that reading alone finds
abbrev pub IsReadCause : LogRefusal → Type 0
IsReadCause (Refusals.Form i) = Unit {0}
IsReadCause (Refusals.Name i) = Unit {0}
IsReadCause (Refusals.Extra i) = Unit {0}
IsReadCause why = ⊥

-- lines that fit the problem, of which none is behind a whole tree
pub record IsReadSoFar (P : Instance) (g : Log) : Type 0 where
  pub fits : Fits P g
  pub in_tree : (k : ℕ) → k < length g.lines → IsTree (take k g.lines) → ⊥

-- no line of the front has such a cause
abbrev pub IsReadFront : Instance → Front → Type 0
IsReadFront P (BeforeTurn counts named) = AreRules P named
IsReadFront P (BeforeGoal counts named) = AreRules P named
IsReadFront P (BeforeCells named) = AreRules P named
IsReadFront P (Reading g) = IsReadSoFar P g
IsReadFront P front = Unit {0}

-- a front of a log of this kind, and no line of it has such a cause
abbrev pub IsRead : Instance → LogKind → Front → Type 0
IsRead P kind front = IsFrontOf kind front × IsReadFront P front

-- reading alone finds this cause in the line behind the front
abbrev pub ReadCause : Instance → LogKind → Front → List ℕ → LogRefusal → Type 0
ReadCause P kind front line why = Cause P kind front line why × IsReadCause why

-- the text is refused by reading, for this cause, as a log of this kind
abbrev pub IsUnread : Instance → LogKind → List ℕ → LogRefusal → Type 0
IsUnread P kind text Refusals.Ends = EndsWithFront P (IsRead P kind) text
IsUnread P kind text why = IsRefusedBehindFront P (IsRead P kind) (ReadCause P kind) text why

-- the text is that of a log of this kind that fits the problem and is one whole tree
pub record IsReadAs (P : Instance) (kind : LogKind) (text : List ℕ) (g : Log) : Type 0 where
  pub of_kind : kind_of_log g ≡ kind
  pub is_text : text ≡ log_text P g
  pub fits : Fits P g
  pub tree : IsTree g.lines

-- the problem has logs of this kind: those with a goal are for weeks of seven days
abbrev pub HasLogsOf : Instance → LogKind → Type 0
HasLogsOf P WithoutGoal = Unit {0}
HasLogsOf P WithGoal = P.days ≡ DAYS_OF_WEEK
HasLogsOf P WithCells = Unit {0}

-- the log of these rules, this opening, this goal or none, and these lines, which may count or not
abbrev pub log_with : List ℕ → Opening → Option ℕ → Bool → List Line → Log
log_with named opening goal counts lines =
    record { named = named; opening = opening; goal = goal; counts = counts; lines = lines }

-- what is left behind the header of a log begins with its lines, which are one whole tree, and the rest follows them
pub record AreReadLines (P : Instance) (g : Log) (left rest : List ℕ) : Type 0 where
  pub tree : IsTree g.lines
  pub read : IsReadSoFar P g
  pub whole : left ≡ lines_text P g.goal g.lines ++ rest
  pub few : length g.lines ≤ LONGEST_LOG

-- why a line of the tree of a log with this goal or none, which may count or not, isn't read, as text line n
abbrev pub IsTreeLineRefused : Instance → Option ℕ → Bool → List ℕ → ℕ → LogRefusal → Type 0
IsTreeLineRefused P goal counts bytes n (Refusals.Form i) = (i ≡ n) × IsLineRefused P goal counts bytes Lines.Form
IsTreeLineRefused P goal counts bytes n (Refusals.Name i) = (i ≡ n) × IsLineRefused P goal counts bytes Lines.Name
IsTreeLineRefused P goal counts bytes n why = ⊥

-- how many trees are open behind a line, before which n are
abbrev pub open_after : ℕ → Line → ℕ
open_after n (Split p x) = n + 1
open_after n leaf = n - 1

-- the log with this header and these lines, and the text of its header
abbrev pub log_under : Header → List Line → Log
log_under h lines = log_with h.named h.opening h.goal h.counts lines

abbrev pub text_of_header : Instance → Header → List ℕ
text_of_header P h = header_text P h.named h.opening h.goal h.counts

-- what is left behind a header begins with the lines of a log, and the rest follows them
abbrev pub AreLinesUnder : Instance → Header → List ℕ → List ℕ → List Line → Type 0
AreLinesUnder P h left rest lines = AreReadLines P (log_under h lines) left rest

-- a text that begins with the header is refused by reading, for this cause, in what is left behind it
abbrev pub IsUnreadUnder : Instance → Header → List ℕ → LogRefusal → Type 0
IsUnreadUnder P h left why = IsUnread P (kind_by h.opening h.goal) (text_of_header P h ++ left) why

-- the log has this header, and its lines are what is left behind it
abbrev pub IsLogUnder : Instance → Header → List ℕ → Log → Type 0
IsLogUnder P h left g = AreReadLines P g left [] × (g ≡ log_under h g.lines)

-- The verdict on a staff text: the sizes that it decides, or its first failure.
use Rattle.std.specs.Prelude.{◌≡◌, ◌≢◌, ◌⊎◌, ℕ, ◌+◌, ◌<◌, ◌≤◌, List, [], ◌++◌, length, Some, Result, Ok, Err}
use Rattle.rwsp_terms.specs.declared.limits.TheConstants.{LONGEST_FILE}
use Rattle.rwsp_terms.specs.declared.data.Symbol.{Symbol}
use Rattle.rwsp_terms.specs.Instance.{Instance}
use Rattle.rwsp_terms.specs.Roster.{MeetsAll}
use Rattle.roster_print.specs.RosterText.{SpellsRoster}
use Rattle.roster_print.specs.Refusal.{refusal_of_roster}
use Rattle.roster_print.specs.declared.refusal.RosterRefusal.{RosterRefusal}
use Rattle.roster_checker.specs.FirstBroken.{IsFirstBroken}
use Rattle.roster_checker.specs.declared.broken.Broken.{Broken}
use Rattle.refutation_terms.specs.declared.lines.LogRefusal.{LogRefusal}
use Rattle.refutation_terms.specs.Log.{Log}
use Rattle.rwsp_text.specs.Lines.{IsNextLine}
use Rattle.refutation_terms.specs.Verdict.{IsRefused}
use Rattle.refutation_terms.specs.declared.lines.LogKind.TheVariants.{WithoutGoal}
use Rattle.crew_size.specs.Sizes.{with_weeks}
use Rattle.crew_size.specs.Texts.{refuted_line, roster_line, none_line, sections_text}
use Rattle.crew_size.specs.Sections.{StandsBehindLogs, AreUpToHeading, IsNextSize, IsLastSize, IsHeading, line_behind}
use Rattle.crew_size.specs.declared.verdict.Staffed.{Staffed}
use Rattle.crew_size.specs.declared.verdict.Staffed.TheVariants.{Least, NoneTo}
use Rattle.crew_size.specs.declared.verdict.StaffRefusal.{StaffRefusal}
use Rattle.crew_size.specs.declared.verdict.StaffRefusal.TheVariants as Refusals

-- behind sections from the first size on, the text ends with these bytes for a roster of the next size
pub record EndsWithRoster
    (P : Instance) (text : List ℕ) (low : ℕ) (logs : List Log) (m : ℕ) (bytes : List ℕ) : Type 0 where
  pub stands : StandsBehindLogs P text low logs (roster_line m ++ bytes)
  pub next : IsNextSize P low logs m
  pub short : length bytes ≤ LONGEST_FILE

-- the bytes spell a roster that meets every rule of the problem with m weeks
abbrev pub SpellsRightFor : Instance → ℕ → List ℕ → Type 0
SpellsRightFor P m bytes = (s : List Symbol) × SpellsRoster (with_weeks P m) bytes s × MeetsAll (with_weeks P m) s

-- the text ends with a roster that meets every rule. The first size is that of the first section, or that of the roster
-- where there is none
pub record EndsWithRight (P : Instance) (text : List ℕ) (low m : ℕ) : Type 0 where
  pub logs : List Log
  pub bytes : List ℕ
  pub size : m ≡ low + length logs
  pub ends : EndsWithRoster P text low logs m bytes
  pub right : SpellsRightFor P m bytes

-- the text ends behind the section of the last size, and says so
pub record EndsWithNone (P : Instance) (text : List ℕ) (low last : ℕ) : Type 0 where
  pub logs : List Log
  pub last_size : IsLastSize low logs last
  pub stands : StandsBehindLogs P text low logs (none_line last)

-- what the text decides, where it is accepted: the first size and the last one
abbrev pub IsStaffAccepted : Instance → List ℕ → Staffed → Type 0
IsStaffAccepted P text (Least low m) = EndsWithRight P text low m
IsStaffAccepted P text (NoneTo low last) = EndsWithNone P text low last

-- line n is in a heading's place and is no heading that may be there; one with an undecided end never may
pub record HasNoHeadingAt (P : Instance) (text : List ℕ) (n : ℕ) : Type 0 where
  pub low : ℕ
  pub logs : List Log
  pub line : List ℕ
  pub rest : List ℕ
  pub stands : StandsBehindLogs P text low logs (line ++ rest)
  pub is_line : IsNextLine line rest
  pub no_heading : IsHeading P low logs line → ⊥
  pub number : n ≡ line_behind (sections_text P low logs)

-- line n is behind the end without a roster
pub record GoesOnAt (P : Instance) (text : List ℕ) (n : ℕ) : Type 0 where
  pub low : ℕ
  pub logs : List Log
  pub last : ℕ
  pub rest : List ℕ
  pub last_size : IsLastSize low logs last
  pub stands : StandsBehindLogs P text low logs (none_line last ++ rest)
  pub more : rest ≢ []
  pub number : n ≡ line_behind (sections_text P low logs ++ none_line last)

-- line n is the heading of a roster whose text is too long
pub record HasLongRosterAt (P : Instance) (text : List ℕ) (n : ℕ) : Type 0 where
  pub low : ℕ
  pub logs : List Log
  pub m : ℕ
  pub bytes : List ℕ
  pub stands : StandsBehindLogs P text low logs (roster_line m ++ bytes)
  pub next : IsNextSize P low logs m
  pub long : LONGEST_FILE < length bytes
  pub number : n ≡ line_behind (sections_text P low logs)

-- the log of the section of size m is refused; its lines count from its own first line
pub record HasRefusedLog (P : Instance) (text : List ℕ) (m : ℕ) (why : LogRefusal) : Type 0 where
  pub low : ℕ
  pub logs : List Log
  pub bytes : List ℕ
  pub rest : List ℕ
  pub stands : StandsBehindLogs P text low logs (refuted_line m ++ bytes ++ rest)
  pub next : IsNextSize P low logs m
  pub log : AreUpToHeading bytes rest
  pub refused : IsRefused (with_weeks P m) WithoutGoal bytes why

-- the roster at the end is refused
pub record HasRefusedRoster (P : Instance) (text : List ℕ) (m : ℕ) (why : RosterRefusal) : Type 0 where
  pub low : ℕ
  pub logs : List Log
  pub bytes : List ℕ
  pub ends : EndsWithRoster P text low logs m bytes
  pub refused : refusal_of_roster (with_weeks P m) bytes ≡ Some why

-- the roster at the end breaks a rule
pub record HasBrokenRoster (P : Instance) (text : List ℕ) (m : ℕ) (broken : Broken) : Type 0 where
  pub low : ℕ
  pub logs : List Log
  pub bytes : List ℕ
  pub cells : List Symbol
  pub ends : EndsWithRoster P text low logs m bytes
  pub spelled : SpellsRoster (with_weeks P m) bytes cells
  pub breaks : IsFirstBroken (with_weeks P m) cells broken

-- the text ends in a heading's place, where no end was read
pub record EndsTooEarly (P : Instance) (text : List ℕ) : Type 0 where
  pub low : ℕ
  pub logs : List Log
  pub stands : StandsBehindLogs P text low logs []

-- the first failure of the text
abbrev pub IsStaffRefused : Instance → List ℕ → StaffRefusal → Type 0
IsStaffRefused P text (Refusals.Form n) = HasNoHeadingAt P text n ⊎ (GoesOnAt P text n ⊎ HasLongRosterAt P text n)
IsStaffRefused P text (Refusals.Log m why) = HasRefusedLog P text m why
IsStaffRefused P text (Refusals.Roster m why) = HasRefusedRoster P text m why
IsStaffRefused P text (Refusals.Breaks m broken) = HasBrokenRoster P text m broken
IsStaffRefused P text Refusals.Ends = EndsTooEarly P text

-- the verdict
abbrev pub IsStaffVerdict : Instance → List ℕ → Result Staffed StaffRefusal → Type 0
IsStaffVerdict P text (Ok staffed) = IsStaffAccepted P text staffed
IsStaffVerdict P text (Err why) = IsStaffRefused P text why

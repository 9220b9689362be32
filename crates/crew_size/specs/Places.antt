-- How far a staff text has been read, and headings as they are read.
use Rattle.std.specs.Prelude.{◌≡◌, ◌≢◌, ℕ, ◌+◌, ◌<◌, ◌≤◌, ◌^◌, List, [], ◌∷◌, ◌++◌, length, Option, Some, None, MatchOption, Result}
use Rattle.std.specs.Fmt.{decimal}
use Rattle.rwsp_terms.specs.declared.limits.TheConstants.{LONGEST_LOG}
use Rattle.rwsp_terms.specs.Instance.{Instance}
use Rattle.rwsp_model.specs.Refusals.{MatchAnswer}
use Rattle.rwsp_model.specs.declared.fail.Fail.{Fail}
use Rattle.refutation_terms.specs.Log.{Log}
use Rattle.crew_size.specs.Sizes.{IsSize}
use Rattle.crew_size.specs.Texts.{sections_text, refuted_line, roster_line, none_line}
use Rattle.crew_size.specs.Sections.{StandsBehindLogs, line_behind}
use Rattle.crew_size.specs.Verdict.{IsStaffAccepted, IsStaffRefused}
use Rattle.crew_size.specs.declared.verdict.Staffed.{Staffed}
use Rattle.crew_size.specs.declared.verdict.StaffRefusal.{StaffRefusal}
use Rattle.crew_size.specs.declared.heading.Heading.{Heading}
use Rattle.crew_size.specs.declared.heading.Heading.TheVariants.{Refuted, Found, NoneTo}

-- the first size and the next one, where there is a section; the bytes that are left, and their first line's number
pub record Place : Type 0 where
  pub sizes : Option (ℕ × ℕ)
  pub rest : List ℕ
  pub line : ℕ

-- the sizes of sections
abbrev pub AreSizes : ℕ → List Log → Option (ℕ × ℕ) → Type 0
AreSizes low [] sizes = sizes ≡ None
AreSizes low (g ∷ logs) sizes = sizes ≡ Some (low, low + length (g ∷ logs))

-- a text has been read up to a heading's place, behind sections whose logs pass
pub record IsPlace (P : Instance) (text : List ℕ) (place : Place) : Type 0 where
  pub low : ℕ
  pub logs : List Log
  pub stands : StandsBehindLogs P text low logs place.rest
  pub sizes : AreSizes low logs place.sizes
  pub line : place.line ≡ line_behind (sections_text P low logs)

-- the line of a heading
abbrev pub heading_line : Heading → List ℕ
heading_line (Refuted m) = refuted_line m
heading_line (Found m) = roster_line m
heading_line (NoneTo last) = none_line last

-- the number that it names
abbrev pub heading_number : Heading → ℕ
heading_number (Refuted m) = m
heading_number (Found m) = m
heading_number (NoneTo last) = last

-- the number has up to nine digits and isn't 0
abbrev pub IsHeadingNumber : Heading → Type 0
IsHeadingNumber h = (1 ≤ heading_number h) × (heading_number h < 10 ^ 9)

-- a size in its place
abbrev pub IsNextOf : Instance → Option (ℕ × ℕ) → ℕ → Type 0
IsNextOf P None m = IsSize P m
IsNextOf P (Some sizes) m = IsSize P m × (m ≡ sizes.1)

-- the last size in its place
abbrev pub IsLastOf : Option (ℕ × ℕ) → ℕ → Type 0
IsLastOf None last = ⊥
IsLastOf (Some sizes) last = last + 1 ≡ sizes.1

-- the heading may follow sections of these sizes
abbrev pub MayFollow : Instance → Option (ℕ × ℕ) → Heading → Type 0
MayFollow P sizes (Refuted m) = IsNextOf P sizes m
MayFollow P sizes (Found m) = IsNextOf P sizes m
MayFollow P sizes (NoneTo last) = IsLastOf sizes last

-- behind sections of these sizes line n of the text is this one, and the bytes follow it
pub record IsAt (P : Instance) (text : List ℕ) (sizes : Option (ℕ × ℕ)) (n : ℕ) (line bytes : List ℕ) : Type 0 where
  pub low : ℕ
  pub logs : List Log
  pub stands : StandsBehindLogs P text low logs (line ++ bytes)
  pub known : AreSizes low logs sizes
  pub number : n ≡ line_behind (sections_text P low logs)

-- the line has a number of up to nine digits that isn't 0 between a word and what closes it
abbrev pub HasNumber : List ℕ → (word close : List ℕ) → ℕ → Type 0
HasNumber line word close m = (1 ≤ m) × (m < 10 ^ 9) × (line ≡ word ++ (decimal m ++ close))

-- it has none there
abbrev pub HasNoNumber : List ℕ → (word close : List ℕ) → Type 0
HasNoNumber line word close = (m : ℕ) → 1 ≤ m → m < 10 ^ 9 → line ≢ word ++ (decimal m ++ close)

-- the first size, or this one where there is no section
abbrev pub first_size : Option (ℕ × ℕ) → ℕ → ℕ
first_size None m = m
first_size (Some sizes) m = sizes.0

-- the place has a line number, and no more is left than a text may have behind it
abbrev pub IsShortPlace : Place → Type 0
IsShortPlace place = (1 ≤ place.line) × (place.line + length place.rest ≤ LONGEST_LOG + 1)

-- further on the one place is than the other
abbrev pub IsFurther : Place → Place → Type 0
IsFurther place before = IsShortPlace place × (length place.rest < length before.rest)

-- what was answered at a heading: the text has been read up to a further place, or this is the verdict on it
abbrev pub IsHeadingAnswer : Instance → List ℕ → Place → Result (Option Staffed) (Fail StaffRefusal) → Type 0
IsHeadingAnswer P text place result =
    MatchAnswer result
    (λ found. MatchOption found (IsPlace P text place) (IsStaffAccepted P text))
    (IsStaffRefused P text)

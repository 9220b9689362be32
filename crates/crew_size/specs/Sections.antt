-- The sections and headings of a staff text, and their places.
use Rattle.std.specs.Prelude.{◌≡◌, ◌⊎◌, ℕ, ◌+◌, ◌<◌, List, [], ◌∷◌, ◌++◌, length, take, drop, slice_get, Some, count_by, ◌==◌, codes}
use Rattle.rwsp_terms.specs.Instance.{Instance}
use Rattle.refutation_terms.specs.Log.{Log, Passes}
use Rattle.refutation_terms.specs.declared.lines.LogKind.TheVariants.{WithoutGoal}
use Rattle.refutation_terms.specs.Verdict.{kind_of_log}
use Rattle.crew_size.specs.Sizes.{with_weeks, IsSize}
use Rattle.crew_size.specs.Texts.{sections_text, refuted_line, roster_line, none_line}

-- the bytes begin as a heading does
abbrev pub BeginsAsHeading : List ℕ → Type 0
BeginsAsHeading bytes =
    ((more : List ℕ) × (bytes ≡ codes "weeks " ++ more)) ⊎ ((more : List ℕ) × (bytes ≡ codes "none " ++ more))

-- no bytes, or some that end with LF
abbrev pub AreWholeLines : List ℕ → Type 0
AreWholeLines bytes = (bytes ≡ []) ⊎ ((body : List ℕ) × (bytes ≡ body ++ 10 ∷ []))

-- at this place of the bytes a line begins as a heading does
abbrev pub HasHeadingAt : List ℕ → ℕ → Type 0
HasHeadingAt bytes i = AreWholeLines (take i bytes) × BeginsAsHeading (drop i bytes)

-- the bytes are all lines of a text up to the next that begins as a heading does, or up to its end, and the rest
-- follows them
pub record AreUpToHeading (bytes rest : List ℕ) : Type 0 where
  pub alone : (i : ℕ) → i < length bytes → HasHeadingAt (bytes ++ rest) i → ⊥
  pub cut : (rest ≡ []) ⊎ HasHeadingAt (bytes ++ rest) (length bytes)

-- each of the logs passes and has no goal, for sizes that rise by one from the first and that the problem may have
pub record ArePassing (P : Instance) (low : ℕ) (logs : List Log) : Type 0 where
  pub sizes : (k : ℕ) (g : Log) → slice_get logs k ≡ Some g → IsSize P (low + k)
  pub plain : (k : ℕ) (g : Log) → slice_get logs k ≡ Some g → kind_of_log g ≡ WithoutGoal
  pub passes : (k : ℕ) (g : Log) → slice_get logs k ≡ Some g → Passes (with_weeks P (low + k)) g

-- behind a section a heading's place is where a line begins as a heading does, or the text ends; in front of all
-- sections it is the start
abbrev pub IsHeadingsPlace : List Log → List ℕ → Type 0
IsHeadingsPlace [] rest = Unit {0}
IsHeadingsPlace (g ∷ logs) rest = (rest ≡ []) ⊎ BeginsAsHeading rest

-- the text begins with sections whose logs pass, and the rest of it begins at a heading's place
pub record StandsBehindLogs (P : Instance) (text : List ℕ) (low : ℕ) (logs : List Log) (rest : List ℕ) : Type 0 where
  pub passing : ArePassing P low logs
  pub whole : text ≡ sections_text P low logs ++ rest
  pub place : IsHeadingsPlace logs rest

-- the next size: one above that of the last section; any where there is none
abbrev pub IsNextSize : Instance → ℕ → List Log → ℕ → Type 0
IsNextSize P low [] m = IsSize P m
IsNextSize P low (g ∷ logs) m = IsSize P m × (m ≡ low + length (g ∷ logs))

-- the size of the last section
abbrev pub IsLastSize : ℕ → List Log → ℕ → Type 0
IsLastSize low logs last = (0 < length logs) × (last + 1 ≡ low + length logs)

-- a heading that may follow the sections
abbrev pub IsHeading : Instance → ℕ → List Log → List ℕ → Type 0
IsHeading P low logs line =
    ((m : ℕ) × IsNextSize P low logs m × ((line ≡ refuted_line m) ⊎ (line ≡ roster_line m)))
    ⊎ ((last : ℕ) × IsLastSize low logs last × (line ≡ none_line last))

-- the number of the line that follows whole lines
abbrev pub line_behind : List ℕ → ℕ
line_behind bytes = count_by (λ b. b == 10) bytes + 1

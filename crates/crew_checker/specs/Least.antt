-- Texts of `staff` that end with a roster, by reading alone: what their logs say isn't judged.
use Rattle.std.specs.Prelude.{◌≡◌, ℕ, ◌+◌, ◌≤◌, List, [], ◌∷◌, ◌++◌, length, Option}
use Rattle.rwsp_terms.specs.declared.limits.TheConstants.{LONGEST_FILE}
use Rattle.rwsp_terms.specs.declared.data.Symbol.{Symbol}
use Rattle.rwsp_terms.specs.Instance.{Instance}
use Rattle.roster_print.specs.RosterText.{SpellsRoster}
use Rattle.refutation_terms.specs.declared.lines.LogKind.TheVariants.{WithoutGoal}
use Rattle.refutation_terms.specs.Tree.{IsTree}
use Rattle.refutation_terms.specs.Log.{Log, Fits}
use Rattle.refutation_terms.specs.LogText.{log_text}
use Rattle.refutation_terms.specs.Verdict.{kind_of_log}
use Rattle.crew_size.specs.Sizes.{with_weeks, IsSize}
use Rattle.crew_size.specs.Texts.{refuted_line, roster_line, sections_text}
use Rattle.crew_size.specs.Sections.{AreUpToHeading}
use Rattle.crew_size.specs.Places.{IsNextOf}

-- the log fits the problem with m weeks, has no goal, and is one whole tree
pub record IsReadLog (P : Instance) (m : ℕ) (g : Log) : Type 0 where
  pub size : IsSize P m
  pub plain : kind_of_log g ≡ WithoutGoal
  pub fits : Fits (with_weeks P m) g
  pub tree : IsTree g.lines

-- so does each of the logs, for sizes that rise by one from the first
abbrev pub AreReadLogs : Instance → (low : ℕ) → List Log → Type 0
AreReadLogs P low [] = Unit {0}
AreReadLogs P low (g ∷ logs) = IsReadLog P low g × AreReadLogs P (low + 1) logs

-- the bytes spell a roster of n weeks, and are no longer than a roster's text may be
pub record SpellsFor (P : Instance) (n : ℕ) (bytes : List ℕ) (s : List Symbol) : Type 0 where
  pub size : IsSize P n
  pub short : length bytes ≤ LONGEST_FILE
  pub spelled : SpellsRoster (with_weeks P n) bytes s

-- the text has a section with a log for each size from the first on, and then the roster of n weeks, which comes next
pub record EndsWithLeast (P : Instance) (low : ℕ) (text : List ℕ) (n : ℕ) (s : List Symbol) : Type 0 where
  pub logs : List Log
  pub read : AreReadLogs P low logs
  pub size : n ≡ low + length logs
  pub bytes : List ℕ
  pub roster : SpellsFor P n bytes s
  pub whole : text ≡ sections_text P low logs ++ (roster_line n ++ bytes)

-- as far as reading goes, the text is one of `staff` that ends with this roster of n weeks
abbrev pub HasLeast : Instance → List ℕ → ℕ → List Symbol → Type 0
HasLeast P text n s = (low : ℕ) × EndsWithLeast P low text n s

-- Section by section.

-- the bytes begin with a log for m weeks, up to a heading or the end, and the rest follows it
pub record BeginsWithLog (P : Instance) (m : ℕ) (bytes rest : List ℕ) : Type 0 where
  pub log : Log
  pub read : IsReadLog P m log
  pub whole : bytes ≡ log_text (with_weeks P m) log ++ rest
  pub cut : AreUpToHeading (log_text (with_weeks P m) log) rest

-- behind sections of these sizes the bytes begin with the section of size m, and the rest follows it
pub record BeginsWithSection
    (P : Instance) (sizes : Option (ℕ × ℕ)) (bytes : List ℕ) (m : ℕ) (rest : List ℕ) : Type 0 where
  pub next : IsNextOf P sizes m
  pub behind : List ℕ
  pub heading : bytes ≡ refuted_line m ++ behind
  pub log : BeginsWithLog P m behind rest

-- behind sections of these sizes the bytes are the roster of n weeks behind its heading
pub record IsLeastEnd
    (P : Instance) (sizes : Option (ℕ × ℕ)) (bytes : List ℕ) (n : ℕ) (s : List Symbol) : Type 0 where
  pub next : IsNextOf P sizes n
  pub behind : List ℕ
  pub heading : bytes ≡ roster_line n ++ behind
  pub roster : SpellsFor P n behind s

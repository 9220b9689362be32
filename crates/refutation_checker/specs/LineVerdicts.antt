-- What can be judged of a line without searching for a word.
use Rattle.std.specs.Prelude.{◌≡◌, ℕ, List, true, Option}
use Rattle.rwsp_terms.specs.Instance.{Instance}
use Rattle.refutation_terms.specs.declared.lines.Line.{Line}
use Rattle.refutation_terms.specs.declared.lines.Line.TheVariants.{Split, Unfinished, Closing}
use Rattle.refutation_terms.specs.declared.lines.Leaf.TheVariants.{Words}
use Rattle.refutation_terms.specs.declared.lines.LogRefusal.{LogRefusal}
use Rattle.refutation_terms.specs.declared.lines.LogRefusal.TheVariants as Refusals
use Rattle.refutation_terms.specs.Word.{Domains}
use Rattle.refutation_terms.specs.WordsLeaf.{WordsHold}
use Rattle.refutation_terms.specs.Tree.{is_idle}
use Rattle.refutation_terms.specs.Log.{Cites, Holds, ListsShortOnly, CitesOnlyNamed}
use Rattle.refutation_terms.specs.Verdict.{IsLeast, IsUnnamed, ListsLong, IsPlainLeaf, Escapes}

-- a split that isn't idle, or a leaf that isn't one of words and holds, in a log with this goal or none. Nothing is
-- said of leaves of words
abbrev pub StandsPlainly : Instance → Option ℕ → Domains → Line → Type 0
StandsPlainly P goal D (Closing (Words p R claim)) = Unit {0}
StandsPlainly P goal D line = Holds P goal D line

-- the line has no cause but a word that escapes it
pub record IsPlainlySound (P : Instance) (goal : Option ℕ) (named : List ℕ) (D : Domains) (line : Line) : Type 0 where
  pub named_all : CitesOnlyNamed P named line
  pub short : ListsShortOnly P line
  pub stands : StandsPlainly P goal D line

-- an idle split
abbrev pub IsIdleSplit : Instance → Domains → Line → Type 0
IsIdleSplit P D (Split p x) = is_idle P D p x.number ≡ true
IsIdleSplit P D leaf = ⊥

-- the lowest cause to refuse the line as text line n, other than a word that escapes it
abbrev pub PlainCause : Instance → Option ℕ → List ℕ → Domains → ℕ → Line → LogRefusal → Type 0
PlainCause P goal named D n line (Refusals.Unnamed i k) = (i ≡ n) × IsLeast (IsUnnamed P named (Cites P line)) k
PlainCause P goal named D n line (Refusals.Idle i) = (i ≡ n) × IsIdleSplit P D line
PlainCause P goal named D n line (Refusals.Long i k) = (i ≡ n) × CitesOnlyNamed P named line
    × IsLeast (ListsLong P line) k
PlainCause P goal named D n line (Refusals.Fails i) = (i ≡ n) × CitesOnlyNamed P named line × IsPlainLeaf line
    × (Holds P goal D line → ⊥)
PlainCause P goal named D n line (Refusals.Unfinished i) = (i ≡ n) × (line ≡ Unfinished)
PlainCause P goal named D n line why = ⊥

-- which cause a line of its kind has where it doesn't hold
abbrev pub IsPlainFailure : ℕ → Line → LogRefusal → Type 0
IsPlainFailure n (Split p x) why = why ≡ Refusals.Idle n
IsPlainFailure n Unfinished why = why ≡ Refusals.Unfinished n
IsPlainFailure n leaf why = why ≡ Refusals.Fails n

-- the line lists these rules
abbrev pub HasList : Line → List ℕ → Type 0
HasList (Closing (Words p R claim)) list = R ≡ list
HasList line list = ⊥

-- the line is none that lists rules
abbrev pub HasNoList : Line → Type 0
HasNoList (Closing (Words p R claim)) = ⊥
HasNoList line = Unit {0}

-- a leaf of words that holds in a log with this goal or none. Nothing is said of other lines
abbrev pub HoldsByWords : Instance → Option ℕ → Domains → Line → Type 0
HoldsByWords P goal D (Closing (Words p R claim)) = WordsHold P goal D p R claim
HoldsByWords P goal D line = Unit {0}

-- the line has no cause in a log with this goal or none
pub record IsSoundLine (P : Instance) (goal : Option ℕ) (named : List ℕ) (D : Domains) (line : Line) : Type 0 where
  pub named_all : CitesOnlyNamed P named line
  pub short : ListsShortOnly P line
  pub holds : Holds P goal D line

-- the lowest cause to refuse the line as text line n
abbrev pub LineCause : Instance → Option ℕ → List ℕ → Domains → ℕ → Line → LogRefusal → Type 0
LineCause P goal named D n line (Refusals.Escape i w) =
    (i ≡ n) × CitesOnlyNamed P named line × ListsShortOnly P line × Escapes P goal D line w
LineCause P goal named D n line why = PlainCause P goal named D n line why

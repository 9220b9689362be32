-- What a walk is a state of.
use Rattle.std.specs.Prelude.{ℕ, ◌+◌, List, ◌++◌, length, Bool, cond}
use Rattle.rwsp_terms.specs.Instance.{Instance}
use Rattle.refutation_terms.specs.declared.lines.Line.{Line}
use Rattle.refutation_terms.specs.declared.lines.Opening.{Opening}
use Rattle.refutation_terms.specs.Tree.{opening}
use Rattle.domain_store.specs.Store.{Store, BelongsTo}
use Rattle.domain_store.specs.declared.open_split.OpenSplit.{OpenSplit}
use Rattle.domain_store.specs.Splits.{HasRead, second_sides_to_come}

pub record State : Type 0 where
  pub store : Store
  -- the splits that the next line is inside of, the outermost first
  pub splits : List OpenSplit
  -- whether a whole tree was read
  pub whole : Bool

-- the state behind these lines of a log with this start, if it has one
pub record IsStateOf (P : Instance) (start : Opening) (lines : List Line) (w : State) : Type 0 where
  pub belongs : BelongsTo P w.store
  pub read : HasRead w.whole (length w.store.sets) w.store (opening P start) w.splits lines

-- the walk has read lines of a log of this problem
abbrev pub IsWalkOf : Instance → State → Type 0
IsWalkOf P w = (start : Opening) × (lines : List Line) × IsStateOf P start lines w

-- some lines lead there
abbrev pub IsWalk : State → Type 0
IsWalk w = (P : Instance) × (start : Opening) × (lines : List Line) × IsStateOf P start lines w

-- what is true of the lines of a log of this problem that the walk has read, whichever of those that lead there they are
abbrev pub OfLinesRead : Instance → State → (Opening → List Line → Type 0) → Type 0
OfLinesRead P w Fact = (start : Opening) (lines : List Line) → IsStateOf P start lines w → Fact start lines

-- the walk has read these lines as well
abbrev pub HasReadOn : (before : State) (more : List Line) (after : State) → Type 0
HasReadOn before more after = (P : Instance) → OfLinesRead P before (λ start lines. IsStateOf P start (lines ++ more) after)

-- how many whole trees must still follow
abbrev pub open_trees : State → ℕ
open_trees w = cond w.whole 0 (second_sides_to_come w.splits + 1)
